-- What holds of every row, of what stands at each of its positions.
use Rattle.std.specs.Prelude.{◌≡◌, ℕ, ◌≤◌, Bool, true, false, Some, None, Option}
use Rattle.rows.specs.declared.places.Place.{Place}
use Rattle.rows.specs.declared.steps.Step.{Step}
use Rattle.rows.specs.declared.steps.Step.TheVariants.{Auction, Trade, Quote, Average, Theory, TheoryUp, Spread, PreviousSpread, Copy, Previous, Ruling}

-- the steps that look in a window
abbrev pub looks : Step → Bool
looks Auction = true
looks Trade = true
looks Quote = true
looks Average = true
looks Theory = false
looks TheoryUp = false
looks Spread = true
looks PreviousSpread = false
looks Copy = false
looks Previous = false
looks Ruling = false

-- a step that looks in a window has one, 1 to 13; any other has none
abbrev pub Fitting : Bool → Option ℕ → Type 0
Fitting true None = ⊥
Fitting true (Some w) = (1 ≤ w) × (w ≤ 13)
Fitting false None = Unit {0}
Fitting false (Some w) = ⊥

-- what stands at position k of a row
pub record PlaceLawful (row : ℕ → Option Place) (k : ℕ) (o : Option Place) : Type 0 where
  -- nothing follows an empty place
  pub gapless : o ≡ None → (j : ℕ) → k ≤ j → row j ≡ None
  -- no other position has the same step with the same window
  pub once : (p : Place) → o ≡ Some p → (j : ℕ) → row j ≡ Some p → j ≡ k
  pub window : (p : Place) → o ≡ Some p → Fitting (looks p.step) p.window

abbrev pub RowLawful : (ℕ → Option Place) → Type 0
RowLawful row = (k : ℕ) → PlaceLawful row k (row k)
