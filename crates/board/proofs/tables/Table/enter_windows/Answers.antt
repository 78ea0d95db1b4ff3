use Rattle.std.proofs.Common.{◌≤◌, eqb, ap, get_or, pos, arith}
use Rattle.book.specs.Figures.{entered_sound}
use Rattle.book.specs.Ledgers.{in_range}
use Rattle.book.specs.Windows.{edges}
use Rattle.board.specs.Cells.{cell}
use Rattle.board.proofs.WindowByWindow.{listed_edges, one_window_more}
use Rattle.board.proofs.tables.Table.enter_windows.Goals as goal

pub loop-window-preserved : goal.loop-window-preserved
loop-window-preserved c s w =
    let e = c.args.e.now in
    let f = cell c.loop-window.self.cells s w in
    let xs = c.windows-windows.result in
    let i = c.from.result in
    let m = c.loop-window.window in
    let few : m ≤ 13 = omega arith in
    one_window_more (λ k. entered_sound (edges c.args.day.now w) k e) (λ k. entered_sound (get_or xs i (pos 0, pos 0)) k e) (in_range s w) (eqb s c.args.series) w m
    (cell c.args.self.now.cells s w) f (cell c.enter_at.new.self.cells s w)
    (λ is. ap (λ x. entered_sound x f e) (listed_edges c.args.day.now xs i w m (pos 0, pos 0) c.windows-windows.ensures c.from.ensures is few))
    (c.loop-window.invariant s w) (c.enter_at.ensures s w)
