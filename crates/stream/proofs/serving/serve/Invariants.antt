use Rattle.std.proofs.Common.{◌≡◌, false}
use Rattle.stream.specs.Held.{at_first}
use Rattle.stream.specs.Sessions.{has_failed, view_of}
use Rattle.stream.proofs.Whole.{Reached}
use Rattle.stream.proofs.serving.serve.Given as goal

-- the input so far
abbrev pub invariant-loop : goal.invariant-loop
invariant-loop g l = record {
  reached : Reached (g.R.Read.remaining l.fn.input) (g.R.Read.remaining l.input) (at_first (g.W.Write.contents l.fn.output) (g.B.Book.meaning l.fn.book))
      (view_of l.session (g.W.Write.contents l.output) (g.B.Book.meaning l.book));
  working : has_failed l.session ≡ false;
}
