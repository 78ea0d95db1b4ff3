-- What the limits on prices, lots and sums give as numbers.
use Rattle.std.proofs.Common.{◌≡◌, ℕ, ◌*◌, ◌≤◌, true, leb, ℤ, pos, negsuc, ◌*ℤ◌, nat_abs, sym, refl, mul-le-mul_right, mul_comm, arith}
use Rattle.std.proofs.lemmas.Int.{ints}
use Rattle.std.proofs.lemmas.Bool.{and_parts, leb-true, true≢false}
use Rattle.book.specs.Entries.{price_lawful, lots_lawful}
use Rattle.book.specs.Figures.{roomy}
use Rattle.book.specs.declared.figures.Figures.{Figures}

pub price_bound : (v : ℤ) → price_lawful v ≡ true → nat_abs v ≤ 1000000000
price_bound v h = grind (arith, ints)

pub lots_bound : (n : ℤ) → lots_lawful n ≡ true → nat_abs n ≤ 100000
lots_bound n h = grind (arith, ints)

abs_times : (a : ℤ) (t : ℕ) → nat_abs (a *ℤ pos t) ≡ nat_abs a * t
abs_times (pos a) t = refl
abs_times (negsuc a) t = omega (arith, ints)

-- money stays within 1,000,000,000 a lot
pub worth_by_lots : (p n : ℤ) → price_lawful p ≡ true → lots_lawful n ≡ true → nat_abs (p *ℤ n) ≤ nat_abs n * 1000000000
worth_by_lots p (pos n) h k =
    let e = abs_times p n in
    let m = mul-le-mul_right n (price_bound p h) in
    let s = mul_comm 1000000000 n in
    omega arith
worth_by_lots p (negsuc n) h k = absurd (true≢false (sym k))

-- room for one entry more is that of each sum
pub room_for : (f : Figures) → roomy f ≡ true → (nat_abs f.lots ≤ 3000000000) × (nat_abs f.money ≤ 3000000000000000000)
room_for f h =
    let both = and_parts (leb (nat_abs f.lots) 3000000000) (leb (nat_abs f.money) 3000000000000000000) h in
    (leb-true (nat_abs f.lots) 3000000000 both.0, leb-true (nat_abs f.money) 3000000000000000000 both.1)
