-- Bytes added to a buffer, one piece behind the other.
use Rattle.std.proofs.Common.{◌≡◌, ℕ, ◌+◌, ◌-◌, ◌^◌, ◌<◌, ◌≤◌, List, [], ◌∷◌, ◌++◌, length, take, drop, ℤ, Some, None, Ok, Err, Result, codes, decimal, sym, refl, ap, ◌∙◌, arith, length-append}
use Rattle.std.proofs.lemmas.List.{append_assoc, append-nil, drop-drop, take-append-drop}
use Rattle.std.proofs.lemmas.Slice.{take-put_mid, drop-put_mid}
use borrow.Rule.Slice.PartMut.{put_mid}
use Rattle.std.specs.Fmt.{signed_decimal}
use Rattle.house.specs.declared.answers.Settlement.{Settlement}
use Rattle.lines.specs.Values.{signed_if}
use Rattle.rows.specs.Steps.{letter}
use Rattle.answers.specs.Faults.{line_detail, line_number}
use Rattle.answers.specs.Texts.{Typed, answer_text}
use Rattle.answers.specs.Written.{PutAt, Begins, Replied}
use Rattle.calls.specs.declared.call.Reply.{Reply}
use Rattle.calls.specs.declared.call.Reply.TheVariants.{Done, Listed, Settled}
use Rattle.answers.specs.declared.faults.LineFault.{LineFault}
use Rattle.answers.proofs.Neat.{one_line, text_short}

-- buffers that are equal from a place on are so from every later place on
rest_from : (xs ys : List ℕ) (i j : ℕ) → i ≤ j → drop i xs ≡ drop i ys → drop j xs ≡ drop j ys
rest_from xs ys i j h e =
    let k = j - i in
    let p : i + k ≡ j = omega arith in
    ap (λ n. drop n xs) (sym p) ∙ sym (drop-drop k i xs) ∙ ap (drop k) e ∙ drop-drop k i ys ∙ ap (λ n. drop n ys) p

-- two pieces, the second where the first ends, are one
added_both : (old s mid t new : List ℕ) (at end last : ℕ) → PutAt old at s mid end → PutAt mid end t new last → PutAt old at (s ++ t) new last
added_both old s mid t new at end last a b =
    record {
      ends = omega (arith, length-append s t, a.ends, b.ends);
      front = b.front ∙ ap (λ xs. xs ++ t) a.front ∙ append_assoc (take at old) s t;
      rest = b.rest ∙ rest_from mid old end last (omega (arith, b.ends)) a.rest;
    }

-- a space and a field
pub added_field : (old mid f new : List ℕ) (at start end : ℕ) → PutAt old at (32 ∷ []) mid start → PutAt mid start f new end → PutAt old at (32 ∷ f) new end
added_field old mid f new at start end a b = added_both old (32 ∷ []) mid f new at start end a b

-- what a copy into a part of the buffer gives
pub added_part : (old bytes part : List ℕ) (at : ℕ) → at + length bytes ≤ length old → part ≡ bytes → PutAt old at bytes (put_mid at (at + length bytes - at) old part) (at + length bytes)
added_part old bytes part at h e =
    let k = at + length bytes - at in
    let n : length part ≡ k = omega (arith, ap length e) in
    record {
      ends = refl;
      front = take-put_mid at k old part (at + length bytes) (omega arith) (omega arith) ∙ ap (λ xs. take at old ++ xs) e;
      rest = drop-put_mid at k old part (at + length bytes) (omega arith) (omega arith) n;
    }

-- a whole text, which is a line of at most 96 bytes
begins : (r : Result Reply LineFault) (old new : List ℕ) (end : ℕ) → Typed r → PutAt old 0 (answer_text r) new end → Begins old (answer_text r) new end
begins r old new end t a =
    record { added = a; short = omega (arith, a.ends, text_short r t); one_line = one_line r t }

-- behind the last field nothing is added
added_last : (old t new : List ℕ) (at end : ℕ) → PutAt old at t new end → PutAt old at (t ++ []) new end
added_last old t new at end a = rw (append-nil t) a

-- a text at the front of a buffer that has room for every answer
pub replied : (text old new : List ℕ) (end : ℕ) → 96 ≤ length old → Begins old text new end → Replied text old (Ok end) new
replied text old new end h b =
    let a = b.added in
    let n : end ≡ length text = omega (arith, a.ends) in
    record {
      short = λ l. absurd (omega arith);
      long = λ l. (ap (λ k. Ok k) n, sym (take-append-drop end new) ∙ ap (λ xs. xs ++ drop end new) a.front ∙ ap (λ xs. text ++ xs) a.rest ∙ ap (λ k. text ++ drop k old) n);
    }

-- ---- the answers, field by field

pub begins_done : (old new : List ℕ) (end : ℕ) → PutAt old 0 (codes "done") new end → Begins old (answer_text (Ok Done)) new end
begins_done old new end a = begins (Ok Done) old new end tt a

pub begins_listed : (old mid new : List ℕ) (at end n : ℕ) → PutAt old 0 (codes "listed") mid at → PutAt mid at (32 ∷ decimal n) new end → n < 2 ^ 8 → Begins old (answer_text (Ok (Listed n))) new end
begins_listed old mid new at end n a b h =
    begins (Ok (Listed n)) old new end h
    (added_both old (codes "listed") mid _ new 0 at end a (added_last mid (32 ∷ decimal n) new at end b))

pub begins_price : (old m1 m2 m3 m4 m5 new : List ℕ) (a1 a2 a3 a4 a5 end l : ℕ) (z : ℤ) (s : Settlement) → PutAt old 0 (codes "price") m1 a1 → PutAt m1 a1 (32 ∷ signed_decimal z) m2 a2 → PutAt m2 a2 (32 ∷ signed_decimal s.price) m3 a3 → PutAt m3 a3 (32 ∷ l ∷ []) m4 a4 → l ≡ letter s.step → PutAt m4 a4 (32 ∷ decimal s.place) m5 a5 → PutAt m5 a5 (32 ∷ signed_if s.time) new end → Typed (Ok (Settled z s)) → Begins old (answer_text (Ok (Settled z s))) new end
begins_price old m1 m2 m3 m4 m5 new a1 a2 a3 a4 a5 end l z s a b c d e f g t =
    let step : PutAt m3 a3 (32 ∷ letter s.step ∷ []) m4 a4 = rw (sym e) d in
    begins (Ok (Settled z s)) old new end t
    (added_both old (codes "price") m1 _ new 0 a1 end a
    (added_both m1 (32 ∷ signed_decimal z) m2 _ new a1 a2 end b
    (added_both m2 (32 ∷ signed_decimal s.price) m3 _ new a2 a3 end c
    (added_both m3 (32 ∷ letter s.step ∷ []) m4 _ new a3 a4 end step
    (added_both m4 (32 ∷ decimal s.place) m5 _ new a4 a5 end f
    (added_last m5 (32 ∷ signed_if s.time) new a5 end g))))))

pub begins_refused : (old mid new : List ℕ) (at end n : ℕ) (f : LineFault) → PutAt old 0 (codes "refused") mid at → PutAt mid at (32 ∷ decimal n) new end → n ≡ line_number f → None ≡ line_detail f → Begins old (answer_text (Err f)) new end
begins_refused old mid new at end n f a b e d =
    let typed : Typed (Err f) = rw (sym d) tt in
    begins (Err f) old new end typed
    (rw (sym e, sym d)
    (added_both old (codes "refused") mid _ new 0 at end a (added_last mid (32 ∷ decimal n) new at end b)))

pub begins_detail : (old m1 m2 new : List ℕ) (a1 a2 end n k : ℕ) (f : LineFault) → PutAt old 0 (codes "refused") m1 a1 → PutAt m1 a1 (32 ∷ decimal n) m2 a2 → n ≡ line_number f → PutAt m2 a2 (32 ∷ decimal k) new end → Some k ≡ line_detail f → k < 2 ^ 8 → Begins old (answer_text (Err f)) new end
begins_detail old m1 m2 new a1 a2 end n k f a b e c d h =
    let typed : Typed (Err f) = rw (sym d) h in
    begins (Err f) old new end typed
    (rw (sym e, sym d)
    (added_both old (codes "refused") m1 _ new 0 a1 end a
    (added_both m1 (32 ∷ decimal n) m2 _ new a1 a2 end b (added_last m2 (32 ∷ decimal k) new a2 end c))))
