-- Prices: whole numbers of points, a point being one thousandth.
use Rattle.std.specs.Prelude.{Bool, ◌&&◌, ℤ, pos, negsuc, int_le}

-- from -1,000,000,000 to 1,000,000,000 points
abbrev pub within : ℤ → Bool
within v = int_le (negsuc 999999999) v && int_le v (pos 1000000000)
