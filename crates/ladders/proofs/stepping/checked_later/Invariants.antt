use Rattle.std.proofs.Common.{◌≡◌, map, length, take, drop}
use Rattle.ladders.specs.Bands.{band, described, later_fault}
use Rattle.ladders.proofs.stepping.checked_later.Given as goal

-- the bands so far are described by the front of the rest, and a fault of the rest, if any, is one of what is left
abbrev pub invariant-loop-i : goal.invariant-loop-i
invariant-loop-i l =
    (length l.later ≡ 3)
    × (map described (take l.i l.later) ≡ take l.i l.rest)
    × (later_fault (band l.initial.before.start l.initial.before.tick) l.rest ≡ later_fault (band l.before.start l.before.tick) (drop l.i l.rest))
