-- How an input falls into lines, and what is held of a line.
use Rattle.std.proofs.Common.{◌≡◌, ◌≢◌, ℕ, ◌+◌, ◌-◌, ◌≤◌, min, eqb, List, [], ◌∷◌, ◌++◌, length, take, drop, All, refl, sym, ap, ◌∙◌, ⊎_elim, arith}
use Rattle.std.proofs.lemmas.Bool.{cases_eq, cases_lt, cond-false, ne_eqb}
use Rattle.std.proofs.lemmas.List.{append-nil, append_assoc, drop-take, drop_at, length-take-le, take-append-drop, take-append-le, take-take, take_all, take_at, take_min}
use Rattle.std.proofs.lemmas.List.Concat.{flat_map-append}
use Rattle.std.proofs.lemmas.List.Elements.{All-append, All-cons, All-head, All-nil, All-tail}
use Rattle.lines.specs.Fields.{onto}
use Rattle.stream.specs.Inputs.{AllSplit, SplitLines, Splits, Unbroken, with_newlines, last_line, lines_of}
use Rattle.stream.specs.Held.{first_bytes}

-- ---- what is held of a line

-- what is held of a whole line
pub held_short : (line : List ℕ) → length line ≤ 201 → first_bytes line ≡ line
held_short line h = take_all 201 line h

-- of what is held, and of the line, the same is held after more bytes
pub held_more : (line bytes : List ℕ) → first_bytes (first_bytes line ++ bytes) ≡ first_bytes (line ++ bytes)
held_more line bytes =
    ⊎_elim
    (λ h. take-append-le 201 (first_bytes line) bytes (omega (arith, length-take-le 201 line (omega arith))) ∙ take-take 201 201 line (omega arith) ∙ sym (take-append-le 201 line bytes (omega arith)))
    (λ h. ap (λ l. first_bytes (l ++ bytes)) (held_short line (omega arith)))
    (cases_lt 201 (length line))

-- a front of at most 201 bytes, and of more bytes as many as there is room for
pub held_room : (front bytes : List ℕ) → length front ≤ 201 → front ++ take (201 - length front) bytes ≡ first_bytes (front ++ bytes)
held_room front bytes h =
    let n = length front in
    let k = 201 - n in
    let xs = front ++ bytes in
    let all : n + k ≡ 201 = omega arith in
    sym
    (ap (λ m. take m xs) (sym all)
    ∙ sym (take-append-drop n (take (n + k) xs))
    ∙ ap (λ ys. ys ++ drop n (take (n + k) xs)) (take-take n (n + k) xs (omega arith) ∙ take_at front bytes n refl)
    ∙ ap (λ ys. front ++ ys) (drop-take n k xs ∙ ap (take k) (drop_at front bytes n refl)))

-- the same, where no more bytes are taken than there are
pub held_pushed : (front bytes : List ℕ) (n : ℕ) → length front ≡ n → n ≤ 201 → front ++ take (min (length bytes) (201 - n)) bytes ≡ first_bytes (front ++ bytes)
held_pushed front bytes n size few =
    let least : min (length bytes) (201 - n) ≡ min (201 - length front) (length bytes) = omega arith in
    ap (λ m. front ++ take m bytes) least
    ∙ ap (λ xs. front ++ xs) (take_min (201 - length front) bytes)
    ∙ held_room front bytes (omega arith)

-- ---- pieces of an input

-- a piece without a newline goes on with the line
pub splits_open : (line : List ℕ) → Unbroken line → Splits line [] line
splits_open line h = record { whole = refl; unbroken = All-nil Unbroken; open_end = h }

-- a newline ends it
pub splits_ended : (line : List ℕ) → Unbroken line → Splits (line ++ (10 ∷ [])) (line ∷ []) []
splits_ended line h = record {
  whole = sym (append-nil (with_newlines (line ∷ [])) ∙ append-nil (line ++ (10 ∷ [])));
  unbroken = All-cons Unbroken line [] h (All-nil Unbroken);
  open_end = All-nil (λ b. b ≢ 10);
}

-- what follows falls into lines behind the rest of what came before
pub splits_join : (input more : List ℕ) (ls ms : List (List ℕ)) (rest last : List ℕ) → Splits input ls rest → Splits (rest ++ more) ms last → Splits (input ++ more) (ls ++ ms) last
splits_join input more ls ms rest last a b = record {
  whole =
      ap (λ xs. xs ++ more) a.whole
      ∙ append_assoc (with_newlines ls) rest more
      ∙ ap (λ xs. with_newlines ls ++ xs) b.whole
      ∙ sym (append_assoc (with_newlines ls) (with_newlines ms) last)
      ∙ ap (λ xs. xs ++ last) (sym (flat_map-append (λ line. line ++ (10 ∷ [])) ls ms));
  unbroken = All-append Unbroken ls ms a.unbroken b.unbroken;
  open_end = b.open_end;
}

-- ---- the lines of an input

ended_first : (line more : List ℕ) → Unbroken line → lines_of (line ++ (10 ∷ more)) ≡ line ∷ lines_of more
ended_first [] more h = refl
ended_first (b ∷ bs) more h =
    cond-false (eqb b 10) _ (onto b (lines_of (bs ++ (10 ∷ more)))) (ne_eqb b 10 (All-head (λ b. b ≢ 10) b bs h))
    ∙ ap (onto b) (ended_first bs more (All-tail (λ b. b ≢ 10) b bs h))

pub rest_last : (rest : List ℕ) → Unbroken rest → lines_of rest ≡ last_line rest
rest_last [] h = refl
rest_last (b ∷ bs) h =
    cond-false (eqb b 10) _ (onto b (lines_of bs)) (ne_eqb b 10 (All-head (λ b. b ≢ 10) b bs h))
    ∙ ap (onto b) (rest_last bs (All-tail (λ b. b ≢ 10) b bs h))
    ∙ onto_last bs
  where
    onto_last : (bs : List ℕ) → onto b (last_line bs) ≡ (b ∷ bs) ∷ []
    onto_last [] = refl
    onto_last (c ∷ cs) = refl

split_lines : (ls : List (List ℕ)) (rest : List ℕ) → All Unbroken ls → Unbroken rest → lines_of (with_newlines ls ++ rest) ≡ ls ++ last_line rest
split_lines [] rest h k = rest_last rest k
split_lines (l ∷ ls) rest h k =
    ap lines_of (append_assoc (l ++ (10 ∷ [])) (with_newlines ls) rest ∙ append_assoc l (10 ∷ []) (with_newlines ls ++ rest))
    ∙ ended_first l (with_newlines ls ++ rest) (All-head Unbroken l ls h)
    ∙ ap (λ ms. l ∷ ms) (split_lines ls rest (All-tail Unbroken l ls h) k)

pub lines_split : SplitLines
lines_split input ls rest s = ap lines_of s.whole ∙ split_lines ls rest s.unbroken s.open_end

-- one byte before an input that is split
byte_before : (b : ℕ) (input : List ℕ) (ls : List (List ℕ)) (rest : List ℕ) → b ≢ 10 → Splits input ls rest → (ms : List (List ℕ)) × (last : List ℕ) × Splits (b ∷ input) ms last
byte_before b input [] rest h s = (
  [],
  b ∷ rest,
  record {
    whole = ap (λ xs. b ∷ xs) s.whole;
    unbroken = s.unbroken;
    open_end = All-cons (λ b. b ≢ 10) b rest h s.open_end;
  },
)
byte_before b input (l ∷ ls) rest h s = (
  (b ∷ l) ∷ ls,
  rest,
  record {
    whole = ap (λ xs. b ∷ xs) s.whole;
    unbroken = All-cons Unbroken (b ∷ l) ls (All-cons (λ b. b ≢ 10) b l h (All-head Unbroken l ls s.unbroken)) (All-tail Unbroken l ls s.unbroken);
    open_end = s.open_end;
  },
)

pub all_split : AllSplit
all_split [] = ([], [], splits_open [] (All-nil (λ b. b ≢ 10)))
all_split (b ∷ bs) =
    let s = all_split bs in
    ⊎_elim
    (λ e. (
      [] ∷ s.0,
      s.1,
      record {
        whole = ap (λ c. c ∷ bs) e ∙ ap (λ xs. 10 ∷ xs) s.2.whole;
        unbroken = All-cons Unbroken [] s.0 (All-nil (λ b. b ≢ 10)) s.2.unbroken;
        open_end = s.2.open_end;
      },
    ))
    (λ n. byte_before b bs s.0 s.1 n s.2)
    (cases_eq b 10)
