-- Tests and orders of whole numbers, and what the relations of rounding give by themselves, for any lawful prices.
use Rattle.std.specs.Prelude.{◌≡◌, Bool, true, false, ℤ, pos, negsuc, ◌≤ℤ◌, ◌<ℤ◌, int_le, int_lt}
use Rattle.std.proofs.Common.{sym, ◌∙◌, arith}
use Rattle.std.proofs.lemmas.Int.{ints}
use Rattle.std.proofs.lemmas.Bool.{and_parts, and_from}
use Rattle.ladders.specs.Prices.{within}
use Rattle.ladders.specs.Rounding.{Above, Below}

pub lt_from_test : (a b : ℤ) → int_lt a b ≡ true → a <ℤ b
lt_from_test a b e = grind (arith, ints)

pub lt_test : (a b : ℤ) → a <ℤ b → int_lt a b ≡ true
lt_test a b e = grind (arith, ints)

pub not_lt_test : (a b : ℤ) → b ≤ℤ a → int_lt a b ≡ false
not_lt_test a b e = grind (arith, ints)

pub le_from_test : (a b : ℤ) → int_le a b ≡ true → a ≤ℤ b
le_from_test a b e = grind (arith, ints)

pub within_test : (v : ℤ) → negsuc 999999999 ≤ℤ v → v ≤ℤ pos 1000000000 → within v ≡ true
within_test v low high = and_from (int_le (negsuc 999999999) v) (int_le v (pos 1000000000)) (grind (arith, ints)) (grind (arith, ints))

pub within_range : (v : ℤ) → within v ≡ true → (negsuc 999999999 ≤ℤ v) × (v ≤ℤ pos 1000000000)
within_range v e = let both = and_parts (int_le (negsuc 999999999) v) (int_le v (pos 1000000000)) e in (grind (arith, ints), grind (arith, ints))

pub antisym : (a b : ℤ) → a ≤ℤ b → b ≤ℤ a → a ≡ b
antisym a b h k = omega (arith, ints)

-- ---- above and below rise with the number, and two ladders with the same lawful prices round alike

pub above_rises : (P Q : ℤ → Bool) → ((z : ℤ) → P z ≡ Q z) → (v w r s : ℤ) → Above P v r → Above Q w s → v ≤ℤ w → r ≤ℤ s
above_rises P Q same v w r s a b h = let reached = b.reaches in a.least s (same s ∙ b.on) (omega (arith, ints))

pub below_rises : (P Q : ℤ → Bool) → ((z : ℤ) → P z ≡ Q z) → (v w r s : ℤ) → Below P v r → Below Q w s → v ≤ℤ w → r ≤ℤ s
below_rises P Q same v w r s a b h = let reached = a.reaches in b.greatest r (sym (same r) ∙ a.on) (omega (arith, ints))

pub above_once : (P : ℤ → Bool) (v r s : ℤ) → Above P v r → Above P v s → r ≡ s
above_once P v r s a b = antisym r s (a.least s b.on b.reaches) (b.least r a.on a.reaches)

pub below_once : (P : ℤ → Bool) (v r s : ℤ) → Below P v r → Below P v s → r ≡ s
below_once P v r s a b = antisym r s (b.greatest r a.on a.reaches) (a.greatest s b.on b.reaches)
