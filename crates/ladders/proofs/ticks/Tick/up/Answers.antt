use Rattle.std.proofs.Common.{arith}
use Rattle.std.proofs.lemmas.Int.{ints}
use Rattle.ladders.specs.Orders.{within_range}
use Rattle.ladders.specs.ToTick.{rounded_up}
use Rattle.ladders.proofs.ticks.Tick.up.Goals as goal

pub returns : goal.returns
returns c =
    let range = within_range c.args.v c.requires in
    let t = c.args.self in
    rounded_up t.points c.args.v _ c.rest.result _ t.lawful.0 (omega (arith, ints)) c.rest.ensures.value (omega (arith, ints))
