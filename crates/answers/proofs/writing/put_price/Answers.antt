use Rattle.std.proofs.Common.{Ok, rules, w64, SFits}
use Rattle.std.proofs.lemmas.Int.{to_z-of_z}
use Rattle.calls.specs.declared.call.Reply.TheVariants.{Settled}
use Rattle.answers.specs.Texts.{Typed}
use Rattle.answers.proofs.Adding.{begins_price}
use Rattle.answers.proofs.writing.put_price.Goals as goal

pub returns : goal.returns
returns c =
    let s = c.args.settlement in
    let fits : SFits w64 s.price = search rules in
    let typed : Typed (Ok (Settled c.args.series s)) = (c.ranges.series, fits, search rules, search rules) in
    let series = simp (to_z-of_z w64 c.args.series c.ranges.series) at (c.put_number-at.ensures.added) in
    let price = simp (to_z-of_z w64 s.price fits) at (c.put_number-at-2.ensures.added) in
    begins_price _ _ _ _ _ _ _ _ _ _ _ _ _ _ c.args.series s c.put-at.ensures series price c.put_field-at.ensures c.letter.ensures
    c.put_number-at-3.ensures.added c.put_time.ensures typed
