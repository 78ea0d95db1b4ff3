use Rattle.std.specs.Io.KnownBytes.{Keeps}
use Rattle.stream.proofs.serving.next_piece.Given as goal

-- a read that fails takes nothing
abbrev pub invariant-loop : goal.invariant-loop
invariant-loop g l = Keeps (g.R.Read.remaining l.initial.input) (g.R.Read.remaining l.input)
