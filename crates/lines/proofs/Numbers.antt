-- Numbers written in digits, with or without a minus.
use Rattle.std.proofs.Common.{◌≡◌, ℕ, zero, suc, ◌+◌, ◌-◌, ◌*◌, ◌^◌, ◌<◌, ◌≤◌, List, [], ◌∷◌, length, get_or, take, ℤ, pos, negsuc, Some, None, decimal, Option, sym, refl, ap, ◌∙◌, subst, arith}
use Rattle.std.specs.Option.{option_flatten}
use Rattle.std.proofs.lemmas.Fmt.{decimal_nonempty, decimal_digit, decimal-digits_value, digits_decimal, first_decimal, length-decimal-le, decimal_injective}
use Rattle.std.proofs.lemmas.Int.Digits.{digits_more, digits_value_more}
use Rattle.std.proofs.lemmas.List.{length-take-le}
use Rattle.std.proofs.lemmas.Str.Parse.{IsNumeralModel, digit_at, numerals_by_value, tells_digits, digits_value_short}
use Rattle.std.specs.Str.Parse.{AllDigits, digits_value}
use Rattle.std.specs.Int.{IsInRange}
use Rattle.std.specs.Char.{digit_value}
use Rattle.std.specs.Fmt.{signed_decimal}
use Rattle.lines.specs.Values.{Brief, BriefIf, Classed, FieldBy, Numbered, Valued, signed_if}
use Rattle.lines.specs.declared.classes.ByteClass.{ByteClass}
use Rattle.lines.specs.declared.classes.ByteClass.TheVariants.{Digit, Minus, Space, Other}

pub own : IsNumeralModel (AllDigits 10) (digits_value 10)
own = numerals_by_value (AllDigits 10) tells_digits

-- ---- digits alone

-- a byte of another class is no digit
pub no_digit : (b : ℕ) (r : ByteClass) → Classed b r → ((d : ℕ) → r ≡ Digit d → ⊥) → IsInRange 48 57 b → ⊥
no_digit b (Digit d) h other i = other d refl
no_digit b Minus h other i = omega arith
no_digit b Space h other i = omega arith
no_digit b Other h other i = h.0 (b - 48) (omega arith) (omega arith)

-- what the writing of no number is: more than ten bytes, none, a zero before others, a byte that is no digit
pub too_long : (ds : List ℕ) → 10 < length ds → (n : ℕ) → n < 10 ^ 10 → ds ≡ decimal n → ⊥
too_long ds l n h e = omega (arith, ap length e, length-decimal-le 10 n (omega arith) h (omega arith))

pub too_short : (ds : List ℕ) → length ds ≡ 0 → (n : ℕ) → n < 10 ^ 10 → ds ≡ decimal n → ⊥
too_short ds l n h e = omega (arith, ap length e, decimal_nonempty n (omega arith))

pub zero_first : (ds : List ℕ) → get_or ds 0 0 ≡ 48 → 2 ≤ length ds → (n : ℕ) → n < 10 ^ 10 → ds ≡ decimal n → ⊥
zero_first ds z l zero h e = omega (arith, ap length e, ap length (decimal_digit 0 (omega arith)))
zero_first ds z l (suc n) h e = omega (arith, ap (λ xs. get_or xs 0 0) e, first_decimal (suc n) (omega arith) (omega arith))

pub no_digits : (ds : List ℕ) → (AllDigits 10 ds → ⊥) → (n : ℕ) → n < 10 ^ 10 → ds ≡ decimal n → ⊥
no_digits ds none n h e = none (rw e (digits_decimal own n (omega arith)))

-- one to ten digits with no zero before others are how their value is written
pub digits_written : (ds : List ℕ) → AllDigits 10 ds → 0 < length ds → length ds ≤ 10 → (get_or ds 0 0 ≡ 48 → length ds ≡ 1) → (digits_value 10 ds < 10 ^ 10) × (ds ≡ decimal (digits_value 10 ds))
digits_written ds h l most first =
    let v : digits_value 10 ds < 10 ^ 10 = digits_value_short own ds 10 h most in
    (v, sym (decimal-digits_value own ds h l first (omega arith)))

pub numbered : (ds : List ℕ) (r : Option ℕ) → 0 < length ds → length ds ≤ 10 → (get_or ds 0 0 ≡ 48 → length ds ≡ 1) → Valued ds r → Numbered ds r
numbered ds (Some n) l most first v = let w = digits_written ds v.0 l most first in rw v.1 w
numbered ds None l most first v = no_digits ds v

-- ---- the value of the digits so far

pub so_far : (ds : List ℕ) (i n : ℕ) → length ds ≤ 10 → i < length ds → AllDigits 10 (take i ds) → n ≡ digits_value 10 (take i ds) → n < 1000000000
so_far ds i n most l h e =
    let t : length (take i ds) ≤ 9 = omega (arith, length-take-le i ds (omega arith)) in
    omega (arith, digits_value_short own (take i ds) 9 h t)

value_of_digit : (b d : ℕ) → b ≡ 48 + d → d < 10 → digit_value b ≡ d
value_of_digit b d e h = grind arith

pub digit_step : (ds : List ℕ) (i n d : ℕ) → i < length ds → AllDigits 10 (take i ds) → n ≡ digits_value 10 (take i ds) → get_or ds i 0 ≡ 48 + d → d < 10 → AllDigits 10 (take (i + 1) ds) × (n * 10 + d ≡ digits_value 10 (take (i + 1) ds))
digit_step ds i n d l h v e s =
    let w : digit_value (get_or ds i 0) ≡ d = value_of_digit (get_or ds i 0) d e s in
    (digits_more 10 ds i l h (omega arith), omega (arith, digits_value_more 10 ds i l))

pub not_digits : (ds : List ℕ) (i : ℕ) (r : ByteClass) → i < length ds → Classed (get_or ds i 0) r → ((d : ℕ) → r ≡ Digit d → ⊥) → AllDigits 10 ds → ⊥
not_digits ds i r l h other all = no_digit (get_or ds i 0) r h other (digit_at ds i all l)

-- ---- with a minus, or missing

-- a number begins with a digit
pub first_digit : (n : ℕ) → n < 10 ^ 10 → IsInRange 48 57 (get_or (decimal n) 0 0)
first_digit n h = digit_at (decimal n) 0 (digits_decimal own n (omega arith)) (decimal_nonempty n (omega arith))

-- no number is written by a minus alone
pub lone_minus : (z : ℤ) → Brief z → signed_decimal z ≡ 45 ∷ [] → ⊥
lone_minus (pos n) h e = omega (arith, ap (λ xs. get_or xs 0 0) e, first_digit n h)
lone_minus (negsuc n) h e = omega (arith, ap length e, decimal_nonempty (suc n) (omega arith))

-- a minus, and then some bytes that are no number over zero
pub minus_none : (f : List ℕ) (b : ℕ) (ds : List ℕ) → f ≡ b ∷ ds → b ≡ 45 → 0 < length ds → ((n : ℕ) → 0 < n → n < 10 ^ 10 → ds ≡ decimal n → ⊥) → (v : Option ℤ) → BriefIf v → f ≡ signed_if v → ⊥
minus_none f b ds m is l none None h e = omega (arith, ap length m, ap length e)
minus_none f b ds m is l none (Some (pos n)) h e = omega (arith, is, ap (λ xs. get_or xs 0 0) (sym e ∙ m), first_digit n h)
minus_none f b ds m is l none (Some (negsuc n)) h e =
    let w : b ∷ ds ≡ 45 ∷ decimal (suc n) = sym m ∙ e in
    let d : ds ≡ decimal (suc n) = cc in
    none (suc n) (omega arith) h d

-- a minus and a zero
pub minus_zero : (f : List ℕ) (b : ℕ) (ds : List ℕ) (n : ℕ) → f ≡ b ∷ ds → b ≡ 45 → 0 < length ds → ds ≡ decimal n → n ≡ 0 → (v : Option ℤ) → BriefIf v → f ≡ signed_if v → ⊥
minus_zero f b ds n m is l w o =
    minus_none f b ds m is l (λ k p h d. omega (arith, decimal_injective n k (omega arith) (omega arith) (sym w ∙ d)))

-- no byte at all
pub not_empty : (f : List ℕ) → length f ≡ 0 → (v : Option ℤ) → BriefIf v → f ≡ signed_if v → ⊥
not_empty f l None h e = omega (arith, ap length e)
not_empty f l (Some (pos n)) h e = omega (arith, ap length e, decimal_nonempty n (omega arith))
not_empty f l (Some (negsuc n)) h e = omega (arith, ap length e)

no_minus : (b : ℕ) (r : ByteClass) → Classed b r → (r ≡ Minus → ⊥) → b ≡ 45 → ⊥
no_minus b (Digit d) h other e = omega arith
no_minus b Minus h other e = other refl
no_minus b Space h other e = omega arith
no_minus b Other h other e = h.1 e

-- a first byte that is no digit and no minus
pub other_first : (f : List ℕ) (b : ℕ) (rest : List ℕ) (r : ByteClass) → f ≡ b ∷ rest → Classed b r → ((d : ℕ) → r ≡ Digit d → ⊥) → (r ≡ Minus → ⊥) → (v : Option ℤ) → BriefIf v → f ≡ signed_if v → ⊥
other_first f b rest r w k digit minus None h e = no_minus b r k minus (ap (λ xs. get_or xs 0 0) (sym w ∙ e))
other_first f b rest r w k digit minus (Some (pos n)) h e =
    no_digit b r k digit (subst (IsInRange 48 57) (ap (λ xs. get_or xs 0 0) (sym e ∙ w)) (first_digit n h))
other_first f b rest r w k digit minus (Some (negsuc n)) h e = no_minus b r k minus (ap (λ xs. get_or xs 0 0) (sym w ∙ e))

-- what is a number or missing, read as a number
pub flattened : (f : List ℕ) (r : Option (Option ℤ)) → FieldBy signed_if BriefIf f r → FieldBy signed_decimal Brief f (option_flatten r)
flattened f None none = λ z h e. none (Some z) h e
flattened f (Some None) h = λ z b e. lone_minus z b (sym e ∙ h.1)
flattened f (Some (Some z)) h = h

-- what reading digits cites
pub ruleset numerals = (numbered, too_long, too_short, zero_first, not_digits, so_far)
