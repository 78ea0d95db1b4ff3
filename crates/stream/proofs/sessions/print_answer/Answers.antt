use Rattle.std.proofs.Common.{◌≤◌, refl}
use Rattle.std.proofs.lemmas.Result.{IfOk-at_ok, on_err_weaker, on_ok_weaker}
use Rattle.stream.proofs.Pieces.{printed_line}
use Rattle.stream.proofs.sessions.print_answer.Goals as goal

pub returns-clause-printed : goal.returns-clause-printed
returns-clause-printed g c =
    on_ok_weaker c.put.result
    (printed_line c.args.line.now _ _ _ _ _ _ c.respond.new.out _ c.respond.result c.unwrap-n.result c.respond.ensures.responded c.unwrap-n.ensures
    (IfOk-at_ok (λ n. n ≤ 96) c.unwrap-n.ensures c.respond.ensures.short) refl)
    c.put.ensures.all

pub returns-clause-failed : goal.returns-clause-failed
returns-clause-failed g c =
    on_err_weaker c.put.result
    (λ x. (
      x.0,
      x.1,
      printed_line c.args.line.now _ _ _ _ _ _ c.respond.new.out _ c.respond.result c.unwrap-n.result c.respond.ensures.responded c.unwrap-n.ensures
          (IfOk-at_ok (λ n. n ≤ 96) c.unwrap-n.ensures c.respond.ensures.short) refl x.2,
    ))
    c.put.ensures.front
