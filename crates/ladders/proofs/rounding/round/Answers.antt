use Rattle.std.proofs.Common.{◌≡◌, true, ℤ, sym, ap, ◌∙◌, subst, w64, SFits, to_z, of_z, rules}
use Rattle.std.proofs.lemmas.Int.{to_z-of_z}
use Rattle.std.proofs.lemmas.Bool.{true≢false}
use Rattle.ladders.specs.Fractions.{inside}
use Rattle.ladders.specs.Prices.{within}
use Rattle.ladders.specs.Rounding.{Above, Below}
use Rattle.ladders.specs.Values.{closer_of}
use Rattle.ladders.proofs.Nearest.{ceiling_within, rounds_from, rounds_value, rounds_close}
use Rattle.ladders.proofs.rounding.round.Goals as goal

-- of a fraction inside the limit, the set always answers
pub returns-in_err-above : goal.returns-in_err-above
returns-in_err-above g c =
    let ok : inside c.args.fraction.0 c.args.fraction.1 ≡ true = search rules in
    let fits : SFits w64 c.around-floor.result.1 = search rules in
    let same = to_z-of_z w64 c.around-floor.result.1 fits ∙ c.around-floor.ensures.1 in
    absurd (true≢false (sym (ceiling_within c.args.fraction.0 c.args.fraction.1 ok) ∙ ap within (sym same) ∙ c.in_err-above.ensures))

pub returns : goal.returns
returns g c =
    let n = c.args.fraction.0 in
    let d = c.args.fraction.1 in
    let low = c.in_ok-below.below in
    let high = c.in_ok-above.above in
    let P = g.S.LadderSet.lawful c.args.set.now c.args.ladder in
    let ok : inside n d ≡ true = search rules in
    let f0 : SFits w64 c.around-floor.result.0 = search rules in
    let f1 : SFits w64 c.around-floor.result.1 = search rules in
    let fl : SFits w64 low = search rules in
    let fh : SFits w64 high = search rules in
    let fc : SFits w64 c.closer.result = search rules in
    let under = to_z-of_z w64 low fl in
    let over = to_z-of_z w64 high fh in
    let b = subst (λ (v : ℤ). Below P v low) (to_z-of_z w64 c.around-floor.result.0 f0 ∙ c.around-floor.ensures.0) c.in_ok-below.ensures.1 in
    let a = subst (λ (v : ℤ). Above P v high) (to_z-of_z w64 c.around-floor.result.1 f1 ∙ c.around-floor.ensures.1) c.in_ok-above.ensures.1 in
    let close = to_z-of_z w64 c.closer.result fc ∙ c.closer.ensures ∙ ap (λ x. closer_of n d x (to_z w64 (of_z w64 high))) under ∙ ap (closer_of n d low) over in
    let h = rounds_from P n d low high _ ok b a under close over in
    let near = g.met.S.LadderSet.dense c.args.set.now c.args.ladder in
    record { rule = (ok, h); value = rounds_value P near n d _ ok h; close = rounds_close P near n d _ ok h }
