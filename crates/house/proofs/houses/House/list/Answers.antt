use Rattle.std.proofs.Common.{sym, subst}
use Rattle.house.specs.Houses.{state}
use Rattle.house.proofs.Admitted.{Admitted, listed_lawful}
use Rattle.house.proofs.Laddered.{listed_on}
use Rattle.house.proofs.houses.House.list.Goals as goal

pub invariant_of-self : goal.invariant_of-self
invariant_of-self g c =
    let h = c.args.self.now in
    record { laddered = listed_on (g.L.LadderSet.size h.set) c.args.listing (state h) c.in_ok-terms.terms _ h.laddered c.in_ok-terms.ensures c.push.ensures }

pub push-requires-clause-lawful : goal.push-requires-clause-lawful
push-requires-clause-lawful g c =
    let s = state c.args.self.now in
    (subst (Admitted s.roll.count) (sym c.in_ok-terms.ensures) (listed_lawful (g.L.LadderSet.size c.args.self.now.set) c.args.listing s)).1
