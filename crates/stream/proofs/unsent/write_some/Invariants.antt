use Rattle.std.specs.Io.KnownBytes.{Keeps}
use Rattle.stream.proofs.unsent.write_some.Given as goal

-- a write that fails appends nothing
abbrev pub invariant-loop : goal.invariant-loop
invariant-loop g l = Keeps (g.W.Write.contents l.initial.writer) (g.W.Write.contents l.writer)
