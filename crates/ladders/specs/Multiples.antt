-- The multiples of a tick.
use Rattle.std.specs.Prelude.{ℕ, ◌%◌, Bool, ℤ, ◌==◌, unsigned_abs}

abbrev pub multiple : ℕ → ℤ → Bool
multiple t z = unsigned_abs z % t == 0
