use Rattle.std.proofs.Common.{[]}
use Rattle.std.proofs.lemmas.Result.{on_err_weaker, on_ok_weaker}
use Rattle.stream.proofs.Pieces.{after_error_weaker}
use Rattle.stream.proofs.Whole.{piece_sent, piece_taken, up_to_end}
use Rattle.stream.proofs.sessions.Session.answer_and_send.Goals as goal

pub returns-clause-taken : goal.returns-clause-taken
returns-clause-taken g c =
    let m = g.B.Book.meaning c.answer_piece.new.book in
    on_ok_weaker c.send.result (λ f. piece_taken _ _ _ c.args.piece.now c.in_ok-answer_piece.ensures.answered (f m)) c.send.ensures.flushed

pub returns-clause-failed : goal.returns-clause-failed
returns-clause-failed g c =
    let m = g.B.Book.meaning c.answer_piece.new.book in
    on_err_weaker c.send.result
    (λ f. (
      [],
      after_error_weaker _ (λ v x. up_to_end _ v c.args.piece.now (piece_sent _ _ v c.args.piece.now c.in_ok-answer_piece.ensures.answered x)) (f m),
    ))
    c.send.ensures.failed
