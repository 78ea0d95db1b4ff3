use Rattle.std.proofs.Common.{List, ℕ, ◌+◌, drop, sym, subst}
use Rattle.std.proofs.lemmas.List.{take_rest}
use Rattle.stream.specs.Held.{AnsweredUpTo, View}
use Rattle.stream.specs.Sessions.{view_of}
use Rattle.stream.proofs.Pieces.{after_error_weaker, up_to_all, up_to_line, up_to_none}
use Rattle.stream.proofs.Results.{on_err}
use Rattle.stream.proofs.sessions.Session.answer_piece.Goals as goal

pub loop-end-init : goal.loop-end-init
loop-end-init g c = up_to_none c.args.piece.now (view_of c.args.self.now (g.W.Write.contents c.args.writer.now) (g.B.Book.meaning c.args.book.now))

pub loop-end-preserved : goal.loop-end-preserved
loop-end-preserved g c =
    let piece = c.args.piece.now in
    let rest = c.loop-end.rest.now in
    let n = c.in-Some.end in
    let a : View = view_of c.args.self.now (g.W.Write.contents c.args.writer.now) (g.B.Book.meaning c.args.book.now) in
    let b : View = view_of c.loop-end.self (g.W.Write.contents c.loop-end.writer) (g.B.Book.meaning c.loop-end.book) in
    let d : View = view_of c.end_line.new.self (g.W.Write.contents c.end_line.new.writer) (g.B.Book.meaning c.end_line.new.book) in
    subst (λ (xs : List ℕ). AnsweredUpTo a piece xs d) (sym (take_rest rest (n + 1)))
    (up_to_line piece rest n a b d c.in-Some.ensures.0 c.in-Some.ensures.1 c.loop-end.invariant c.in_ok-end_line.ensures.ended)

pub returns-in_err-end_line-clause-failed : goal.returns-in_err-end_line-clause-failed
returns-in_err-end_line-clause-failed g c =
    let rest = c.loop-end.rest.now in
    let n = c.in-Some.end in
    let x = c.in_err-end_line.ensures.failed in
    on_err c.from_residual.result (
      drop (n + 1) rest,
      after_error_weaker _ (λ v. up_to_line c.args.piece.now rest n _ _ v c.in-Some.ensures.0 c.in-Some.ensures.1 c.loop-end.invariant) x,
    )

pub returns-clause-answered : goal.returns-clause-answered
returns-clause-answered g c = up_to_all c.args.piece.now c.loop-end.rest.now _ _ _ c.in_default.ensures c.loop-end.invariant c.push.ensures
