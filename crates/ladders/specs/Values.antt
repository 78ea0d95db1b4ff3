-- Rounding as a value: what the relations of `Rounding` determine, where lawful prices are near everywhere.
use Rattle.std.specs.Prelude.{ℕ, zero, suc, Bool, cond, ℤ, pos, ◌+ℤ◌, ◌-ℤ◌, ◌*ℤ◌, Some, None, Option, int_le}
use Rattle.ladders.specs.Fractions.{inside, floor, ceiling}

-- the first lawful number from v up, and from v down, among k numbers
abbrev pub seek_up : (ℤ → Bool) → ℕ → ℤ → ℤ
seek_up lawful zero v = v
seek_up lawful (suc k) v = cond (lawful v) v (seek_up lawful k (v +ℤ pos 1))

abbrev pub seek_down : (ℤ → Bool) → ℕ → ℤ → ℤ
seek_down lawful zero v = v
seek_down lawful (suc k) v = cond (lawful v) v (seek_down lawful k (v -ℤ pos 1))

unfoldable pub above_of : (ℤ → Bool) → ℤ → ℤ
above_of lawful v = seek_up lawful 1000000 v

unfoldable pub below_of : (ℤ → Bool) → ℤ → ℤ
below_of lawful v = seek_down lawful 1000000 v

-- of a price not over the fraction and one not under it, the closer; of two equally close, the larger
abbrev pub closer_of : ℤ → ℕ → ℤ → ℤ → ℤ
closer_of n d low high = cond (int_le ((high *ℤ pos d) -ℤ n) (n -ℤ (low *ℤ pos d))) high low

unfoldable pub nearest_of : (ℤ → Bool) → ℤ → ℕ → ℤ
nearest_of lawful n d = closer_of n d (below_of lawful (floor n d)) (above_of lawful (ceiling n d))

-- nothing for a fraction that is not inside the limit
abbrev pub nearest_price : (ℤ → Bool) → ℤ → ℕ → Option ℤ
nearest_price lawful n d = cond (inside n d) (Some (nearest_of lawful n d)) None
