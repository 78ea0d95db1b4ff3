-- What every book keeps holds of a board too.
use Rattle.std.specs.Prelude.{◌≡◌, ℕ, ◌≤◌, true, false, List, slice_index_or}
use Rattle.std.proofs.lemmas.Bool.{cond-false}
use Rattle.book.specs.Bounds.{bounded}
use Rattle.book.specs.Days.{is_lawful_day}
use Rattle.book.specs.Figures.{empty}
use Rattle.book.specs.Ledgers.{Lawful, in_range}
use Rattle.book.specs.declared.days.Day.{Day}
use Rattle.book.specs.declared.figures.Figures.{Figures}
use Rattle.board.specs.Cells.{cell, cell_index, tabled}

cell_outside : (cells : List Figures) (s w : ℕ) → in_range s w ≡ false → cell cells s w ≡ empty
cell_outside cells s w h = cond-false (in_range s w) (slice_index_or cells (cell_index s w) empty) empty h

pub table_is_lawful : (d : Day) (k n : ℕ) (cells : List Figures) → is_lawful_day d ≡ true → k ≤ 30000 → n ≤ k
    → ((s w : ℕ) → bounded n (cell cells s w) ≡ true) → (n ≡ 0 → (s w : ℕ) → cell cells s w ≡ empty)
    → Lawful (tabled d k n cells)
table_is_lawful d k n cells lawful_day most room bounds none_taken = record {
  lawful_day = lawful_day;
  most = most;
  room = room;
  bounds = bounds;
  outside = cell_outside cells;
  none_taken = none_taken;
}
