use Rattle.std.proofs.Common.{refl}
use Rattle.house.specs.Houses.{state}
use Rattle.house.proofs.Laddered.{supplied_on}
use Rattle.house.proofs.houses.House.set_theory.Goals as goal

pub invariant_of-self : goal.invariant_of-self
invariant_of-self g c =
    let h = c.args.self.now in
    record { laddered = supplied_on (g.L.LadderSet.size h.set) c.in_ok-number.number _ c.get-series.result _ (state h).roll _ h.laddered c.get-series.ensures.value refl c.put.ensures }
