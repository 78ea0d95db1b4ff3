use Rattle.std.proofs.Common.{length}
use Rattle.stream.specs.Held.{AppendsFront}
use Rattle.stream.proofs.unsent.write_bytes.Given as goal

-- the writer has what is gone from the rest
abbrev pub invariant-loop-rest : goal.invariant-loop-rest
invariant-loop-rest g l = AppendsFront (g.W.Write.contents l.initial.writer) (g.W.Write.contents l.writer) l.bytes l.rest

abbrev pub decreases-loop-rest : goal.decreases-loop-rest
decreases-loop-rest g l = length l.rest
