use Rattle.std.proofs.Common.{take, ap, ◌∙◌, w64}
use Rattle.std.proofs.lemmas.Int.{to_z-of_z}
use Rattle.ladders.specs.InBand.{at, below_in_ladder}
use Rattle.ladders.proofs.stepping.SteppedLadderLadder.below.Goals as goal

pub returns : goal.returns
returns c =
    let l = c.args.self.now in
    let v = to_z-of_z w64 c.args.v c.ranges.v in
    below_in_ladder l.first c.tick_at.result (take l.count l.later) c.args.v c.below.result l.lawful
    (c.tick_at.ensures ∙ ap (at l.first (take l.count l.later)) v)
    (simp v at c.below.ensures)
