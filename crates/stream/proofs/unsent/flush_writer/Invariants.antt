use Rattle.std.specs.Io.KnownBytes.{Keeps}
use Rattle.stream.proofs.unsent.flush_writer.Given as goal

-- a flush changes no byte that the writer has
abbrev pub invariant-loop : goal.invariant-loop
invariant-loop g l = Keeps (g.W.Write.contents l.initial.writer) (g.W.Write.contents l.writer)
