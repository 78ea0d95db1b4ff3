use Rattle.std.proofs.Common.{refl, arith}
use Rattle.lines.proofs.Cuts.{some_left}
use Rattle.lines.proofs.readers.Reader.expect_end.Goals as goal

pub returns-then-self : goal.returns-then-self
returns-then-self c =
    (some_left c.args.self.now.line.now c.args.self.now.at (omega (arith, c.if-self.true)), refl)
