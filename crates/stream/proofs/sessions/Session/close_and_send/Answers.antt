use Rattle.std.proofs.lemmas.Result.{on_err_weaker, on_ok_weaker}
use Rattle.stream.proofs.Pieces.{after_error_weaker}
use Rattle.stream.proofs.Whole.{closed_sent, finished}
use Rattle.stream.proofs.sessions.Session.close_and_send.Goals as goal

pub returns-clause-finished : goal.returns-clause-finished
returns-clause-finished g c =
    let m = g.B.Book.meaning c.close.new.book in
    on_ok_weaker c.send.result (λ f. finished _ _ _ c.in_ok-close.ensures.closed (f m)) c.send.ensures.flushed

pub returns-clause-failed : goal.returns-clause-failed
returns-clause-failed g c =
    let m = g.B.Book.meaning c.close.new.book in
    on_err_weaker c.send.result (λ f. after_error_weaker _ (λ v. closed_sent _ _ v c.in_ok-close.ensures.closed) (f m)) c.send.ensures.failed
