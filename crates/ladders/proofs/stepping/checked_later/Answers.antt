use Rattle.std.proofs.Common.{◌+◌, ◌<◌, length, drop, sym, ap, ◌∙◌, arith}
use Rattle.std.proofs.lemmas.List.{length-set}
use Rattle.ladders.specs.Bands.{band, later_fault}
use Rattle.ladders.proofs.Checked.{sound_band, one_more}
use Rattle.ladders.proofs.stepping.checked_later.Goals as goal

pub loop-i-preserved : goal.loop-i-preserved
loop-i-preserved c =
    let next = c.in_ok-band.band in
    let i = c.loop-i.i in
    let rest = c.args.rest.now in
    let sound = c.in_ok-band.ensures in
    let before = c.from-before.ensures in
    let within : i < length c.loop-i.later = omega arith in (
      length-set c.loop-i.later i next ∙ c.loop-i.invariant.0,
      one_more c.loop-i.later rest i next _ within c.loop-i-test.true c.loop-i.invariant.1 sound.1,
      sound_band _ _ rest i _ c.loop-i-test.true c.loop-i.invariant.2 sound.0
          ∙ ap (λ b. later_fault b (drop (i + 1) rest)) (sym sound.1)
          ∙ ap (λ s. later_fault (band s next.tick) (drop (i + 1) rest)) (sym before.0)
          ∙ ap (λ t. later_fault (band c.from-before.result.start t) (drop (i + 1) rest)) (sym before.1),
    )
