use Rattle.std.proofs.Common.{replicate, ap, ◌∙◌}
use Rattle.board.specs.Cells.{cell}
use Rattle.board.proofs.Places.{cell_none}
use Rattle.board.proofs.tables.Table.empty.Goals as goal

pub returns : goal.returns
returns c s w = ap (λ f. cell (replicate 416 f) s w) c.empty.ensures ∙ cell_none s w
