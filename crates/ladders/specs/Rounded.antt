-- A fraction rounded three ways: down, to the nearest, and up.
use Rattle.std.specs.Prelude.{ℕ, Bool, cond, ℤ, Some, None, Option}
use Rattle.ladders.specs.Fractions.{inside, floor, ceiling}
use Rattle.ladders.specs.Rounding.{Above, Below, Nearest}
use Rattle.ladders.specs.Values.{above_of, below_of, nearest_of}
use Rattle.ladders.specs.declared.rounding.Rounded.{Rounded}

pub record Rounds (lawful : ℤ → Bool) (n : ℤ) (d : ℕ) (r : Rounded) : Type 0 where
  pub below : Below lawful (floor n d) r.below
  pub nearest : Nearest lawful n d r.nearest
  pub above : Above lawful (ceiling n d) r.above

-- the same as a value, and nothing for a fraction that is not inside the limit
abbrev pub rounded : (ℤ → Bool) → ℤ → ℕ → Option Rounded
rounded lawful n d =
    cond (inside n d)
    (Some (record { below = below_of lawful (floor n d); nearest = nearest_of lawful n d; above = above_of lawful (ceiling n d) }))
    None
