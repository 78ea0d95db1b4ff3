use Rattle.std.proofs.Common.{◌^◌, ◌<◌, pos, ◌-ℤ◌, ◌*ℤ◌, nat_abs, ap, ◌∙◌, arith, w64, SFits, rules}
use Rattle.std.proofs.lemmas.Int.{to_z-of_z}
use Rattle.ladders.specs.Products.{difference, abs_fits}
use Rattle.ladders.proofs.rounding.spans.Goals as goal

pub returns : goal.returns
returns c =
    let n = c.args.fraction.0 in
    let d = c.args.fraction.1 in
    let fits : SFits w64 n = search rules in
    let whole = c.from-n.ensures ∙ to_z-of_z w64 n fits in
    let few = abs_fits n fits in
    let small : nat_abs c.from-n.result < 2 ^ 96 = rw whole (omega arith) in
    let high = c.times.ensures.value ∙ ap (λ p. p *ℤ pos d) (to_z-of_z w64 c.args.high c.ranges.high) in
    let low = c.times-2.ensures.value ∙ ap (λ p. p *ℤ pos d) (to_z-of_z w64 c.args.low c.ranges.low) in (
      difference c.times.result c.from-n.result c.times.ensures.bound small
          ∙ ap (λ x. x -ℤ c.from-n.result) high ∙ ap (λ x. (c.args.high *ℤ pos d) -ℤ x) whole,
      difference c.from-n.result c.times-2.result small c.times-2.ensures.bound
          ∙ ap (λ x. x -ℤ c.times-2.result) whole ∙ ap (λ x. n -ℤ x) low,
    )
