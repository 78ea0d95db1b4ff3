use Rattle.std.proofs.Common.{sym, ap, ◌∙◌, subst}
use Rattle.book.specs.Bounds.{bounded}
use Rattle.house.specs.Answers.{price_of, time_of}
use Rattle.house.specs.Reach.{TimedInReach}
use Rattle.house.proofs.Looked.{price_found_reach, timed_reach}
use Rattle.house.proofs.settling.Question.look.Goals as goal

pub returns-clause-reach : goal.returns-clause-reach
returns-clause-reach g c =
    let a = c.args.self.now in
    let P = g.L.LadderSet.lawful a.set.now a.series.terms.ladder in
    let count = (g.B.Book.meaning a.book.now).count in
    let bounds = ap (bounded count) c.figures-figures.ensures ∙ (g.met.B.Book.lawful a.book.now).bounds a.number c.unwrap_or.result in
    let near = price_found_reach P (g.met.L.LadderSet.dense a.set.now a.series.terms.ladder) a.number count (price_of a.reference) a.series c.figures-figures.result c.args.place.step a.lawful a.reach bounds in
    subst (TimedInReach a.number) (sym c.find.ensures) (timed_reach a.number _ _ near)
