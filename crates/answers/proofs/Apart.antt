-- No two answers share a text.
use Rattle.std.proofs.Common.{◌≡◌, ℕ, ◌^◌, ◌<◌, List, [], ◌∷◌, length, ℤ, pos, negsuc, Some, None, Ok, Err, decimal, Option, Result, IfSome, cond, eqb, w32, SFits, sym, refl, ap, ◌∙◌, arith}
use Rattle.std.proofs.lemmas.Fmt.{decimal_injective, signed_decimal_injective}
use Rattle.std.specs.Fmt.{signed_decimal}
use Rattle.house.specs.declared.answers.Settlement.{Settlement}
use Rattle.lines.specs.Fields.{fields}
use Rattle.lines.specs.Values.{BriefIf, signed_if}
use Rattle.lines.proofs.Writings.{signed_if_apart}
use Rattle.rows.specs.Steps.{letter}
use Rattle.rows.specs.declared.steps.Step.{Step}
use Rattle.rows.specs.declared.steps.Step.TheVariants.{Auction, Trade, Quote, Average, Theory, TheoryUp, Spread, PreviousSpread, Copy, Previous, Ruling}
use Rattle.answers.specs.Faults.{line_detail, line_number}
use Rattle.answers.specs.Texts.{SameAnswer, TextsApart, Typed, answer_fields, detail_fields}
use Rattle.calls.specs.declared.call.Reply.{Reply}
use Rattle.calls.specs.declared.call.Reply.TheVariants.{Done, Listed, Settled}
use Rattle.answers.specs.declared.faults.LineFault.{LineFault}
use Rattle.answers.proofs.Neat.{fields_text, number_small, one_line, text_short}

-- the step of a letter
abbrev lettered : ℕ → Step
lettered b =
    cond (eqb b 65) Auction
    (cond (eqb b 76) Trade
    (cond (eqb b 81) Quote
    (cond (eqb b 86) Average
    (cond (eqb b 84) Theory
    (cond (eqb b 85) TheoryUp
    (cond (eqb b 83) Spread
    (cond (eqb b 80) PreviousSpread
    (cond (eqb b 67) Copy
    (cond (eqb b 66) Previous Ruling)))))))))

by_letter : (s : Step) → lettered (letter s) ≡ s
by_letter Auction = refl
by_letter Trade = refl
by_letter Quote = refl
by_letter Average = refl
by_letter Theory = refl
by_letter TheoryUp = refl
by_letter Spread = refl
by_letter PreviousSpread = refl
by_letter Copy = refl
by_letter Previous = refl
by_letter Ruling = refl

letters_apart : (s t : Step) → letter s ≡ letter t → s ≡ t
letters_apart s t e = sym (by_letter s) ∙ ap lettered e ∙ by_letter t

number_apart : (m n : ℕ) → m < 2 ^ 8 → n < 2 ^ 8 → decimal m ≡ decimal n → m ≡ n
number_apart m n h k e = decimal_injective m n (omega arith) (omega arith) e

detail_apart : (d e : Option ℕ) → IfSome d (λ n. n < 2 ^ 8) → IfSome e (λ n. n < 2 ^ 8) → detail_fields d ≡ detail_fields e → d ≡ e
detail_apart None None h k e = refl
detail_apart None (Some n) h k e = absurd (omega (arith, ap length e))
detail_apart (Some m) None h k e = absurd (omega (arith, ap length e))
detail_apart (Some m) (Some n) h k e =
    let d : decimal m ≡ decimal n = cc in
    ap (λ i. Some i) (number_apart m n h k d)

-- a stamp has at most ten digits
time_brief : (t : Option ℤ) → IfSome t (SFits w32) → BriefIf t
time_brief None h = tt
time_brief (Some (pos n)) h = omega (arith, h.sfits)
time_brief (Some (negsuc n)) h = omega (arith, h.sfits)

time_apart : (t u : Option ℤ) → IfSome t (SFits w32) → IfSome u (SFits w32) → signed_if t ≡ signed_if u → t ≡ u
time_apart t u h k e = signed_if_apart t u (time_brief t h) (time_brief u k) e

price_apart : (y z : ℤ) (s t : Settlement) → y ≡ z → s.price ≡ t.price → s.step ≡ t.step → s.place ≡ t.place → s.time ≡ t.time → Settled y s ≡ Settled z t
price_apart y z s t e p q r o = λ i. Settled (e i) (record { price = p i; step = q i; place = r i; time = o i })

-- the bytes of the word that begins the fields: each kind of answer has a word of another length
abbrev word_length : List (List ℕ) → ℕ
word_length [] = 0
word_length (f ∷ fs) = length f

same_answer : (r s : Result Reply LineFault) → Typed r → Typed s → answer_fields r ≡ answer_fields s → SameAnswer r s
same_answer (Ok Done) (Ok Done) t u e = refl
same_answer (Ok Done) (Ok (Listed n)) t u e = absurd (omega (arith, ap word_length e))
same_answer (Ok Done) (Ok (Settled z a)) t u e = absurd (omega (arith, ap word_length e))
same_answer (Ok Done) (Err g) t u e = omega (arith, ap word_length e)
same_answer (Ok (Listed m)) (Ok Done) t u e = absurd (omega (arith, ap word_length e))
same_answer (Ok (Listed m)) (Ok (Listed n)) t u e =
    let d : decimal m ≡ decimal n = cc in
    ap (λ i. Listed i) (number_apart m n t u d)
same_answer (Ok (Listed m)) (Ok (Settled z a)) t u e = absurd (omega (arith, ap word_length e))
same_answer (Ok (Listed m)) (Err g) t u e = omega (arith, ap word_length e)
same_answer (Ok (Settled y a)) (Ok Done) t u e = absurd (omega (arith, ap word_length e))
same_answer (Ok (Settled y a)) (Ok (Listed n)) t u e = absurd (omega (arith, ap word_length e))
same_answer (Ok (Settled y a)) (Ok (Settled z b)) t u e =
    let series : signed_decimal y ≡ signed_decimal z = cc in
    let price : signed_decimal a.price ≡ signed_decimal b.price = cc in
    let step : letter a.step ≡ letter b.step = cc in
    let place : decimal a.place ≡ decimal b.place = cc in
    let time : signed_if a.time ≡ signed_if b.time = cc in
    price_apart y z a b (signed_decimal_injective y z t.0.sfits u.0.sfits series)
    (signed_decimal_injective a.price b.price t.1.sfits u.1.sfits price) (letters_apart a.step b.step step)
    (number_apart a.place b.place t.2 u.2 place) (time_apart a.time b.time t.3 u.3 time)
same_answer (Ok (Settled y a)) (Err g) t u e = omega (arith, ap word_length e)
same_answer (Err f) (Ok Done) t u e = omega (arith, ap word_length e)
same_answer (Err f) (Ok (Listed n)) t u e = omega (arith, ap word_length e)
same_answer (Err f) (Ok (Settled z a)) t u e = omega (arith, ap word_length e)
same_answer (Err f) (Err g) t u e =
    let n : decimal (line_number f) ≡ decimal (line_number g) = cc in
    let d : detail_fields (line_detail f) ≡ detail_fields (line_detail g) = cc in (
      number_apart (line_number f) (line_number g) (omega (arith, number_small f)) (omega (arith, number_small g)) n,
      detail_apart (line_detail f) (line_detail g) t u d,
    )

-- equal texts are cut into equal fields
pub texts_apart : TextsApart
texts_apart r s t u e = same_answer r s t u (sym (fields_text r t) ∙ ap fields e ∙ fields_text s u)

pub ruleset laws = (text_short, one_line, texts_apart)
