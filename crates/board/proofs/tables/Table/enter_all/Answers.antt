use Rattle.std.proofs.Common.{◌≡◌, pos, nat_abs, subst, sym, w64, SFits, to_z, of_z, rules, arith}
use Rattle.std.proofs.lemmas.Int.{to_z-of_z}
use Rattle.std.specs.Int.{FitsUnsignedBits}
use Rattle.book.specs.Windows.{edges}
use Rattle.board.specs.Cells.{cell}
use Rattle.board.proofs.WindowByWindow.{all_series, no_series}
use Rattle.board.proofs.tables.Table.enter_all.Goals as goal

pub returns-in-Ok : goal.returns-in-Ok
returns-in-Ok c s w =
    let e = c.args.e.now in
    let fits : SFits w64 e.series = search rules in
    let h : FitsUnsignedBits 8 (to_z w64 (of_z w64 e.series)) × (c.in-Ok.series ≡ nat_abs (to_z w64 (of_z w64 e.series))) = c.in-Ok.ensures in
    let named : e.series ≡ pos c.in-Ok.series = grind (arith, h, to_z-of_z w64 e.series fits) in
    all_series s w c.in-Ok.series (edges c.args.day.now w) e c.in-Some.sound (cell c.args.self.now.cells s w) (cell c.enter_windows.new.self.cells s w) c.in-Some.ensures.1 c.in-Some.ensures.0 named (c.enter_windows.ensures s w)

pub returns-in_default-try_from : goal.returns-in_default-try_from
returns-in_default-try_from c s w =
    let e = c.args.e.now in
    let fits : SFits w64 e.series = search rules in
    no_series s w (edges c.args.day.now w) (cell c.args.self.now.cells s w) e (λ h. c.in_default-try_from.ensures (subst (FitsUnsignedBits 8) (sym (to_z-of_z w64 e.series fits)) h))
