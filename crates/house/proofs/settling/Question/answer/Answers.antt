use Rattle.std.proofs.Common.{◌≤◌, ℤ, nat_abs, None, Ok, sym, subst, w64, SFits, rules}
use Rattle.std.proofs.lemmas.Int.{to_z-of_z}
use Rattle.rows.specs.declared.steps.Step.TheVariants.{Ruling}
use Rattle.house.specs.Reach.{reach}
use Rattle.house.proofs.Looked.{ruled_at_once}
use Rattle.house.proofs.settling.Question.answer.Goals as goal

pub returns-in-Some-clause-reach : goal.returns-in-Some-clause-reach
returns-in-Some-clause-reach g c =
    let a = c.args.self.now in
    let r = c.in-Some.ruling in
    let fits : SFits w64 r.value = search rules in
    let once = ruled_at_once a.number a.series r (Ok (record { price = r.value; step = Ruling; place = 0; time = None })) a.lawful c.in-Some.is (sym c.if-comes_first.ensures) in
    subst (λ (z : ℤ). nat_abs z ≤ reach a.number) (sym (to_z-of_z w64 r.value fits)) once.1
