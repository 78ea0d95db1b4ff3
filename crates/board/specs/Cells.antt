-- One flat table with a record for each series and window.
use Rattle.std.specs.Prelude.{ℕ, ◌+◌, ◌-◌, ◌*◌, cond, List, slice_index_or}
use Rattle.book.specs.Figures.{empty}
use Rattle.book.specs.Ledgers.{Ledger, in_range}
use Rattle.book.specs.declared.days.Day.{Day}
use Rattle.book.specs.declared.figures.Figures.{Figures}

-- the thirteen windows of series 0 stand first, then those of series 1, and so on
abbrev pub cell_index : ℕ → ℕ → ℕ
cell_index s w = s * 13 + (w - 1)

-- the figures of a series and window: empty outside series 0 to 31 and windows 1 to 13
abbrev pub cell : List Figures → ℕ → ℕ → Figures
cell cells s w = cond (in_range s w) (slice_index_or cells (cell_index s w) empty) empty

abbrev pub tabled : Day → ℕ → ℕ → List Figures → Ledger
tabled d k n cells = record { day = d; capacity = k; count = n; figures = cell cells }
