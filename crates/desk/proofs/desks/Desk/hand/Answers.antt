use Rattle.std.proofs.Common.{ap, ◌∙◌}
use Rattle.std.specs.Option.{option_map}
use Rattle.lines.specs.declared.line_calls.LineCall.TheVariants as line_calls
use Rattle.desk.specs.Desks.{begun_by, desk_after}
use Rattle.desk.proofs.Handing.{handed}
use Rattle.desk.proofs.desks.Desk.hand.Goals as goal

pub returns-clause-after : goal.returns-clause-after
returns-clause-after g c =
    let m = g.B.Book.meaning c.args.book.now in
    handed c.in-Some.house.now c.perform.new.house m (g.B.Book.meaning c.perform.new.book) c.args.call.now c.perform.ensures.after c.perform.ensures.set
    ∙ ap (λ o. desk_after (option_map begun_by o) m (line_calls.Call c.args.call.now)) c.in-Some.ensures.value
