-- The rows as they stand in the table of codes: for each family four rows, for each row six places.
use Rattle.std.specs.Prelude.{ℕ, zero, suc, ◌-◌, ◌/◌, ◌%◌, List, [], ◌∷◌, Some, None, Option, slice_index, slice_index_or}
use Rattle.rows.specs.Families.{number}
use Rattle.rows.specs.declared.families.Family.{Family}
use Rattle.rows.specs.declared.places.Choice.{Choice}
use Rattle.rows.specs.declared.places.Choice.TheVariants.{Close, LastDay, QuarterEnd, Morning}
use Rattle.rows.specs.declared.places.Place.{Place}
use Rattle.rows.specs.declared.steps.Step.{Step}
use Rattle.rows.specs.declared.steps.Step.TheVariants.{Auction, Trade, Quote, Average, Theory, TheoryUp, Spread, PreviousSpread, Copy, Previous, Ruling}
use Rattle.rows.specs.declared.tables.TheConstants.{TABLE}

-- the place at a position of a row, if it has one there
abbrev pub at : List Place → ℕ → Option Place
at [] k = None
at (p ∷ ps) zero = Some p
at (p ∷ ps) (suc k) = at ps k

-- the number of a window; 0, which no window has, where there is none
abbrev pub window_number : Option ℕ → ℕ
window_number None = 0
window_number (Some w) = w

-- ---- a code is sixteen times the number of the step, and the window, if there is one; 0 is an empty place

-- the step of each number, from 0 on
abbrev pub steps : List (Option Step)
steps =
    None ∷ Some Auction ∷ Some Trade ∷ Some Quote ∷ Some Average ∷ Some Theory ∷ Some TheoryUp ∷ Some Spread ∷ Some PreviousSpread
    ∷ Some Copy ∷ Some Previous ∷ Some Ruling ∷ []

abbrev pub window_of : ℕ → Option ℕ
window_of zero = None
window_of (suc n) = Some (suc n)

abbrev pub with_window : Option Step → ℕ → Option Place
with_window None w = None
with_window (Some s) w = Some (record { step = s; window = window_of w })

abbrev pub decoded : ℕ → Option Place
decoded c = with_window (slice_index_or steps (c / 16) None) (c % 16)

-- ---- where a row stands in the table

abbrev pub choice_number : Choice → ℕ
choice_number Close = 0
choice_number LastDay = 1
choice_number QuarterEnd = 2
choice_number Morning = 3

abbrev pub codes_of : Family → Choice → List ℕ
codes_of f c = slice_index_or (slice_index_or TABLE (number f - 1) []) (choice_number c) []

-- past a row's end there is no code but 0
abbrev pub code_at : Family → Choice → ℕ → ℕ
code_at f c k = slice_index (codes_of f c) k
