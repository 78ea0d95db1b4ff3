-- Laws of rounding, for any lawful prices.
use Rattle.std.specs.Prelude.{◌≡◌, ℕ, Bool, ℤ, pos, ◌*ℤ◌, ◌≤ℤ◌, Some, None, Option}
use Rattle.ladders.specs.declared.rounding.Rounded.{Rounded}

-- two ladders have the same lawful prices
abbrev pub Same : (ℤ → Bool) → (ℤ → Bool) → Type 0
Same P Q = (v : ℤ) → P v ≡ Q v

-- the fraction n / d is not over m / e
abbrev pub NotOver : ℤ → ℕ → ℤ → ℕ → Type 0
NotOver n d m e = (n *ℤ pos e) ≤ℤ (m *ℤ pos d)

-- where both answer, no price of the second is lower
abbrev pub NoLower : Option Rounded → Option Rounded → Type 0
NoLower None s = Unit {0}
NoLower (Some a) None = Unit {0}
NoLower (Some a) (Some b) = (a.below ≤ℤ b.below) × ((a.nearest ≤ℤ b.nearest) × (a.above ≤ℤ b.above))
