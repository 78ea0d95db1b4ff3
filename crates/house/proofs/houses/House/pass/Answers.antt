use Rattle.std.proofs.Common.{◌∙◌, w64, SFits, rules}
use Rattle.std.proofs.lemmas.Int.{to_z-of_z}
use Rattle.house.specs.Houses.{state}
use Rattle.house.proofs.Demands.{passed}
use Rattle.house.proofs.houses.House.pass.Goals as goal

pub returns : goal.returns
returns g c =
    let h = c.args.self.now in
    let e = c.args.entry.now in
    let fits : SFits w64 e.series = search rules in
    let stated = c.in_ok-series.ensures in
    let found = simp (to_z-of_z w64 e.series fits) at stated in
    c.check_entry.ensures ∙ passed (g.L.LadderSet.lawful h.set) c.args.day.now e (state h) c.in_ok-series.series (search rules) found
