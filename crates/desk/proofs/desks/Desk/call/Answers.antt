use Rattle.std.proofs.Common.{◌≡◌, Result, IfErr, sym, subst}
use Rattle.calls.specs.declared.call.Reply.{Reply}
use Rattle.lines.specs.declared.line_calls.LineCall.TheVariants as line_calls
use Rattle.answers.specs.declared.faults.LineFault.{LineFault}
use Rattle.desk.specs.Desks.{DeskState, call_answer, desk_state}
use Rattle.desk.proofs.Handing.{refusal_stays}
use Rattle.desk.proofs.desks.Desk.call.Goals as goal

pub returns-in-Call-clause-refused : goal.returns-in-Call-clause-refused
returns-in-Call-clause-refused g c =
    let s : DeskState = desk_state c.args.self.now (g.B.Book.meaning c.args.book.now) in
    let t : DeskState = desk_state c.hand.new.self (g.B.Book.meaning c.hand.new.book) in
    let call = line_calls.Call c.in-Call.call in
    subst (λ (r : Result Reply LineFault). IfErr r (λ _. t ≡ s)) (sym c.hand.ensures.answer)
    (subst (λ (u : DeskState). IfErr (call_answer s call) (λ _. u ≡ s)) (sym c.hand.ensures.after) (refusal_stays s call))
