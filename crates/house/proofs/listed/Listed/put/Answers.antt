use Rattle.std.proofs.Common.{◌≡◌, ℕ, true, length, sym, subst, arith, rules}
use Rattle.house.specs.Series.{lawful_series}
use Rattle.house.proofs.Slots.{lawful_set, unused_set}
use Rattle.house.proofs.listed.Listed.put.Goals as goal

pub invariant_of-self : goal.invariant_of-self
invariant_of-self c =
    let l = c.args.self.now in
    let long : length l.slots ≡ 32 = search rules in
    let few = l.few in
    let listed = c.requires.listed in
    let at = c.from.ensures in
    record {
      few = few;
      lawful = lawful_set l.slots c.from.result c.args.series (omega arith) l.lawful (subst (λ (n : ℕ). lawful_series n c.args.series ≡ true) (sym at) c.requires.lawful);
      unused = unused_set l.slots c.from.result l.count c.args.series (omega arith) l.unused;
    }
