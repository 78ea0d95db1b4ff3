-- Tests of whole numbers, and the orders that they decide.
use Rattle.std.proofs.Common.{◌≡◌, true, false, ℤ, ◌≤ℤ◌, ◌<ℤ◌, arith}
use lib.Signed.{le_z}
use Rattle.std.proofs.lemmas.Int.{ints}

pub le_from : (a b : ℤ) → le_z a b ≡ true → a ≤ℤ b
le_from a b e = grind (arith, ints)

pub le_test : (a b : ℤ) → a ≤ℤ b → le_z a b ≡ true
le_test a b h = grind (arith, ints)

pub over_from : (a b : ℤ) → le_z a b ≡ false → b <ℤ a
over_from a b e = grind (arith, ints)
