use Rattle.std.proofs.Common.{◌≡◌, ℕ, ◌&&◌, if◌then◌else◌, nat_eq, nat_lt}
use Rattle.book.specs.Figures.{entered_sound}
use Rattle.book.specs.Ledgers.{in_range}
use Rattle.book.specs.Windows.{edges}
use Rattle.board.specs.Cells.{cell}
use Rattle.board.proofs.tables.Table.enter_windows.Given as goal

-- the windows so far have the entry, and all else is as it was
abbrev pub invariant-loop-window : goal.invariant-loop-window
invariant-loop-window l =
    (s w : ℕ) → cell l.self.cells s w ≡ (if in_range s w && (nat_eq s l.series && nat_lt w l.window) then entered_sound (edges l.day w) (cell l.initial.self.cells s w) l.e else cell l.initial.self.cells s w)
