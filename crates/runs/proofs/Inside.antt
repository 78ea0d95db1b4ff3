-- What a lawful station rounds lies inside the price limit.
use Rattle.std.proofs.Common.{◌≡◌, ℕ, ◌*◌, ◌≤◌, true, ◌&&◌, ltb, ℤ, pos, negsuc, ◌+ℤ◌, ◌*ℤ◌, nat_abs, ap, ◌∙◌, arith}
use lib.Signed.{le_z}
use Rattle.std.proofs.Math.Bool.{and-true}
use Rattle.std.proofs.lemmas.Int.{ints}
use Rattle.std.proofs.lemmas.Bool.{and_from}
use Rattle.book.specs.Bounds.{bounded}
use Rattle.book.specs.Entries.{price_lawful}
use Rattle.book.specs.declared.figures.Figures.{Figures}
use Rattle.book.specs.Growth.{parts}
use Rattle.ladders.specs.Fractions.{inside}
use Rattle.ladders.specs.Orders.{within_range}

-- ---- a price, and the middle of two, is inside

pub whole_inside : (v : ℤ) → price_lawful v ≡ true → inside v 1 ≡ true
whole_inside v h = h

pub middle_inside : (b a : ℤ) → price_lawful b ≡ true → price_lawful a ≡ true → inside (b +ℤ a) 2 ≡ true
middle_inside b a h k =
    let low = within_range b h in
    let high = within_range a k in
    and_from (le_z (negsuc 1999999999) (b +ℤ a)) (le_z (b +ℤ a) (pos 2000000000)) (grind (arith, ints)) (grind (arith, ints))

-- ---- the sums

within_lots : (m : ℤ) (d : ℕ) → nat_abs m ≤ d * 1000000000 → inside m d ≡ ltb 0 d
within_lots m d h =
    ap (λ t. ltb 0 d && t)
    (and_from (le_z (negsuc 999999999 *ℤ pos d) m) (le_z m (pos 1000000000 *ℤ pos d)) (grind (arith, ints)) (grind (arith, ints)))
    ∙ and-true (ltb 0 d)

-- there is an average wherever there are lots
pub average_inside : (k : ℕ) (f : Figures) → bounded k f ≡ true → inside f.money (nat_abs f.lots) ≡ ltb 0 (nat_abs f.lots)
average_inside k f h = within_lots f.money (nat_abs f.lots) (parts k f h).money_bound
