use Rattle.std.proofs.Common.{◌≡◌, ◌+◌, length, take, drop}
use Rattle.ladders.specs.Sets.{each_fault}
use Rattle.ladders.specs.InSet.{AsDescribed}
use Rattle.ladders.proofs.sets.SetOf.new.Given as goal

-- the ladders so far are those described, and a fault, if any, is one of what is left
abbrev pub invariant-loop-i : goal.invariant-loop-i
invariant-loop-i g l =
    let D = g.D.Describes in
    (length l.ladders ≡ 16)
    × AsDescribed D.prices g.L.Ladder.holds (take (l.i + 1) l.described) (take (l.i + 1) l.ladders)
    × (each_fault D.fault l.described ≡ each_fault D.fault (drop (l.i + 1) l.described))
    × (l.later ≡ drop 1 l.described)
