use Rattle.std.proofs.Common.{◌≡◌, ℕ, ◌+◌, true, length, sym, subst, arith, rules}
use Rattle.std.proofs.lemmas.Bool.{ltb-true}
use Rattle.house.specs.Series.{lawful_series}
use Rattle.house.specs.declared.series.Series.{Series}
use Rattle.house.proofs.Slots.{lawful_set, unused_set}
use Rattle.house.proofs.listed.Listed.push.Goals as goal

pub invariant_of-self : goal.invariant_of-self
invariant_of-self c =
    let l = c.args.self.now in
    let long : length l.slots ≡ 32 = search rules in
    let room = ltb-true l.count 32 c.requires.room in
    let at = c.from.ensures in
    let s = c.new.result in
    let lawful : lawful_series l.count s ≡ true = subst (λ (x : Series). lawful_series l.count x ≡ true) (sym c.new.ensures) c.requires.lawful in
    let unused = l.unused in
    record {
      few = omega arith;
      lawful = lawful_set l.slots c.from.result s (omega arith) l.lawful (subst (λ (n : ℕ). lawful_series n s ≡ true) (sym at) lawful);
      unused = unused_set l.slots c.from.result (l.count + 1) s (omega arith) (λ n h. unused n (omega arith));
    }
