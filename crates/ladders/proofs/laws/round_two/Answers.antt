use Rattle.std.proofs.Common.{ℕ, Bool, ℤ, sym, ap, ◌∙◌}
use Rattle.ladders.specs.Rounded.{rounded}
use Rattle.ladders.proofs.Nearest.{rounded_answers, rounding_rises}
use Rattle.ladders.proofs.laws.round_two.Goals as goal

pub returns-clause-rises : goal.returns-clause-rises
returns-clause-rises g c =
    let P = g.S.LadderSet.lawful c.args.first.now c.args.ladder in
    let Q = g.R.LadderSet.lawful c.args.second.now c.args.ladder in
    let x = c.args.x in
    let y = c.args.y in
    let one = rounded_answers P (g.met.S.LadderSet.dense c.args.first.now c.args.ladder) x.0 x.1 _ c.both.ensures.one in
    let other = rounded_answers Q (g.met.R.LadderSet.dense c.args.second.now c.args.ladder) y.0 y.1 _ c.both.ensures.other in
    λ same h. rounding_rises P Q same x.0 y.0 x.1 y.1 _ _ one other h

-- the answer is a function of the lawful prices and of the fraction
pub returns-clause-alike : goal.returns-clause-alike
returns-clause-alike g c =
    let x = c.args.x in
    let Q = g.R.LadderSet.lawful c.args.second.now c.args.ladder in
    λ same e.
    c.both.ensures.one
    ∙ ap (λ (L : ℤ → Bool). rounded L x.0 x.1) (λ i v. same v i)
    ∙ ap (λ (f : ℤ × ℕ). rounded Q f.0 f.1) e
    ∙ sym c.both.ensures.other
