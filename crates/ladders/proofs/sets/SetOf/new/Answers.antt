use Rattle.std.proofs.Common.{◌≡◌, ◌+◌, ◌<◌, ◌≤◌, List, length, take, refl, ap, ◌∙◌, subst, arith}
use Rattle.std.proofs.lemmas.List.{length-drop, length-set, take_all, at_drop_all}
use Rattle.std.proofs.lemmas.Result.{err_from_is_err_and}
use Rattle.ladders.specs.Sets.{lawful_at, each_fault}
use Rattle.ladders.specs.InSet.{AsDescribed, at_later, faulty_at, sound_at, described_more, described_lawful, sized, set_lawful, prices_by_ladder}
use Rattle.ladders.proofs.sets.SetOf.new.Goals as goal

pub returns-in_err-ladders-2-clause-made : goal.returns-in_err-ladders-2-clause-made
returns-in_err-ladders-2-clause-made g c =
    let D = g.D.Describes in
    let H = g.L.Ladder.holds in
    let ds = c.args.described.now in
    let i = c.loop-i.i in
    let next = c.index-later-i in
    let size = c.in_ok-count.ensures in
    let inv = c.loop-i.invariant in
    let test = c.loop-i-test.true in
    let rest = ap length inv.3 ∙ length-drop 1 ds in
    let before : i + 1 < length ds = omega arith in
    let p = err_from_is_err_and c.from_residual-in_err-ladders-2.result c.from_residual-in_err-ladders-2.ensures.1 in
    rw (p.1, p.2) (sized D.fault D.prices H ds size.0 ∙ faulty_at D.fault D.prices H ds (i + 1) next.result _ before (at_later D.fault D.prices H ds _ i next.result inv.3 next.is) inv.2 c.in_err-ladders-2.ensures)

pub loop-i-preserved : goal.loop-i-preserved
loop-i-preserved g c =
    let D = g.D.Describes in
    let H = g.L.Ladder.holds in
    let ds = c.args.described.now in
    let ls = c.loop-i.ladders in
    let i = c.loop-i.i in
    let next = c.index-later-i in
    let sound = c.in_ok-ladders-2.ensures in
    let size = c.in_ok-count.ensures in
    let inv = c.loop-i.invariant in
    let test = c.loop-i-test.true in
    let rest = ap length inv.3 ∙ length-drop 1 ds in
    let before : i + 1 < length ds = omega arith in
    let within : i + 1 < length ls = omega arith in
    let read = at_later D.fault D.prices H ds _ i next.result inv.3 next.is in (
      length-set ls (i + 1) _ ∙ inv.0,
      described_more D.fault D.prices H ds ls (i + 1) next.result _ before within read inv.1 sound.1,
      sound_at D.fault D.prices H ds (i + 1) next.result before read inv.2 sound.0,
      inv.3,
    )

pub returns-clause-made : goal.returns-clause-made
returns-clause-made g c =
    let D = g.D.Describes in
    let H = g.L.Ladder.holds in
    let ds = c.args.described.now in
    let i = c.loop-i.i in
    let size = c.in_ok-count.ensures in
    let inv = c.loop-i.invariant in
    let test = c.loop-i-test in
    let rest = ap length inv.3 ∙ length-drop 1 ds in
    let ended : length ds ≤ i + 1 = omega arith in
    let all : c.in_ok-count.count ≡ i + 1 = omega arith in
    let as_described = subst (λ (xs : List g.row.D.Denot). AsDescribed D.prices H xs (take (i + 1) c.loop-i.ladders)) (take_all (i + 1) ds ended) inv.1 in (
      sized D.fault D.prices H ds size.0 ∙ inv.2 ∙ at_drop_all (each_fault D.fault) ds (i + 1) ended,
      (
        size.1.0,
        λ n v. ap (λ k. lawful_at H (take k c.loop-i.ladders) n v) all ∙ described_lawful D.fault D.prices H ds (take (i + 1) c.loop-i.ladders) as_described n v,
      ),
    )

pub returns-clause-lawful : goal.returns-clause-lawful
returns-clause-lawful g c =
    let D = g.D.Describes in
    let made = returns-clause-made g c in
    (λ _. set_lawful D.fault D.keeps_rules g.met.D.Describes.decided c.args.described.now made.0, λ _. refl)

pub returns-clause-prices : goal.returns-clause-prices
returns-clause-prices g c =
    let D = g.D.Describes in
    let made = returns-clause-made g c in
    let lawful = (returns-clause-lawful g c).0 refl in
    prices_by_ladder D.keeps_rules D.prices D.lawful_prices g.met.D.Describes.told c.args.described.now _ lawful.each made.1.1
