use Rattle.std.proofs.Common.{◌≡◌, [], length, refl, sym, ◌∙◌, arith}
use Rattle.std.proofs.lemmas.Bool.Decides.{nat_tests}
use Rattle.std.proofs.lemmas.List.{nil_from_length}
use Rattle.std.proofs.lemmas.Result.{on_err_weaker, on_ok_weaker}
use Rattle.stream.proofs.Pieces.{ended_held, ended_whole}
use Rattle.stream.proofs.Results.{on_err}
use Rattle.stream.proofs.sessions.Session.end_line.Goals as goal

pub returns-then-is_empty-clause-ended : goal.returns-then-is_empty-clause-ended
returns-then-is_empty-clause-ended g c =
    let none : length c.line.result.now ≡ 0 = let test = c.if-is_empty.ensures in grind (arith, nat_tests) in
    let empty = sym c.line.ensures ∙ nil_from_length c.line.result.now none in
    on_ok_weaker c.print_answer.result (ended_whole _ _ c.args.bytes.now empty empty) c.print_answer.ensures.printed

pub returns-then-is_empty-clause-failed : goal.returns-then-is_empty-clause-failed
returns-then-is_empty-clause-failed g c =
    let none : length c.line.result.now ≡ 0 = let test = c.if-is_empty.ensures in grind (arith, nat_tests) in
    let empty = sym c.line.ensures ∙ nil_from_length c.line.result.now none in
    on_err_weaker c.print_answer.result (λ x. record { lost = x.0; held = []; few = x.1; is_so = ended_whole _ _ c.args.bytes.now empty refl x.2 }) c.print_answer.ensures.failed

pub returns-in_err-print_answer-clause-failed : goal.returns-in_err-print_answer-clause-failed
returns-in_err-print_answer-clause-failed g c =
    let x = c.in_err-print_answer.ensures.failed in
    on_err c.from_residual.result
    (record {
      lost = x.0;
      held = [];
      few = x.1;
      is_so = ended_held _ _ c.args.bytes.now c.line-line.result.now (c.line-line.ensures ∙ c.push.ensures) refl x.2;
    })

pub returns-clause-ended : goal.returns-clause-ended
returns-clause-ended g c =
    ended_held _ _ c.args.bytes.now c.line-line.result.now (c.line-line.ensures ∙ c.push.ensures) c.clear.ensures c.in_ok-print_answer.ensures.printed
