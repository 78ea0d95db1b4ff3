use Rattle.std.proofs.Common.{length}
use Rattle.stream.specs.Held.{AnsweredUpTo}
use Rattle.stream.specs.Sessions.{view_of}
use Rattle.stream.proofs.sessions.Session.answer_piece.Given as goal

-- as far as the last newline found
abbrev pub invariant-loop-end : goal.invariant-loop-end
invariant-loop-end g l =
    AnsweredUpTo (view_of l.initial.self (g.W.Write.contents l.initial.writer) (g.B.Book.meaning l.initial.book)) l.piece l.rest
    (view_of l.self (g.W.Write.contents l.writer) (g.B.Book.meaning l.book))

abbrev pub decreases-loop-end : goal.decreases-loop-end
decreases-loop-end g l = length l.rest
