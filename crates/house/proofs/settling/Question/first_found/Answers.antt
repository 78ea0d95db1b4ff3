use Rattle.std.proofs.Common.{Some, sym, ap, ◌∙◌, arith}
use Rattle.rows.proofs.Table.{row_short}
use Rattle.rows.specs.Chosen.{chosen}
use Rattle.house.proofs.RowWalk.{found_here, found_later, found_not, found_nowhere}
use Rattle.house.proofs.settling.Question.first_found.Goals as goal

pub returns-in_err-place-clause-value : goal.returns-in_err-place-clause-value
returns-in_err-place-clause-value g c =
    let j = c.loop-position.position in
    c.from_residual.ensures ∙ sym (found_nowhere _ _ j _ c.loop-position.invariant (sym (c.place_at.ensures) ∙ c.in_err-place.was))

pub returns-in-Some-clause-value : goal.returns-in-Some-clause-value
returns-in-Some-clause-value g c =
    let j = c.loop-position.position in
    let p = c.in_ok-place.place in
    let v = c.in-Some.found in
    ap Some c.settlement_at.ensures ∙ sym (found_here _ _ j _ c.loop-position.invariant p v (sym (c.place_at.ensures) ∙ c.in_ok-place.was) (sym c.look.ensures.value ∙ c.in-Some.is))

pub loop-position-preserved : goal.loop-position-preserved
loop-position-preserved g c =
    found_later _ _ c.loop-position.position _ c.loop-position.invariant c.in_ok-place.place (sym (c.place_at.ensures) ∙ c.in_ok-place.was) (sym c.look.ensures.value ∙ c.in_default.is)

pub returns-clause-value : goal.returns-clause-value
returns-clause-value g c =
    let s = c.args.self.now.series in
    let short = row_short s.terms.family (chosen s.terms.family s.terms.marks c.args.self.now.edition) in
    let end = c.loop-position-test.false in
    sym (found_not _ _ c.loop-position.position _ c.loop-position.invariant (omega arith))
