use Rattle.std.proofs.Common.{sym, ap, ◌∙◌, w64, SFits, rules}
use Rattle.std.proofs.lemmas.Int.{to_z-of_z}
use Rattle.house.specs.Found.{above_theory}
use Rattle.house.proofs.Looked.{above_found}
use Rattle.house.proofs.settling.Question.above_theory.Goals as goal

pub returns : goal.returns
returns g c =
    let a = c.args.self.now in
    let P = g.L.LadderSet.lawful a.set.now a.series.terms.ladder in
    let v = c.in_ok-self.field-0 in
    let fits : SFits w64 v = search rules in
    let stated = c.above.ensures in
    let found = simp (to_z-of_z w64 v fits) at stated in
    above_found P (g.met.L.LadderSet.dense a.set.now a.series.terms.ladder) v c.above.result found ∙ sym (ap (above_theory P) c.in_ok-self.was)
