-- What makes a tick or a number of ladders unlawful, the number that each refusal is known by, and its text.
use Rattle.std.specs.Prelude.{◌≡◌, ℕ, zero, suc, cond, ◌&&◌, List, ℤ, pos, Some, None, Option, Result, MatchResult, codes, int_le, nat_le}
use Rattle.ladders.specs.declared.faults.LadderFault.{LadderFault}
use Rattle.ladders.specs.declared.faults.LadderFault.TheVariants.{NoLadder, TooManyLadders, NoBand, TooManyBands, TickOutOfRange, StartMisplaced, StartOutOfRange, StartsNotRising, StartOffTick}

-- a set that is not lawful is refused with 13, whatever is wrong with it
abbrev pub ladder_number : LadderFault → ℕ
ladder_number f = 13

-- what is wrong, as a clerk reads it
abbrev pub ladder_reason : LadderFault → List ℕ
ladder_reason NoLadder = codes "no ladder"
ladder_reason TooManyLadders = codes "more than 16 ladders"
ladder_reason NoBand = codes "no band"
ladder_reason TooManyBands = codes "more than 4 bands"
ladder_reason TickOutOfRange = codes "a tick is not 1 to 1000000"
ladder_reason StartMisplaced = codes "a start without its tick"
ladder_reason StartOutOfRange = codes "a start is beyond the price limit"
ladder_reason StartsNotRising = codes "the starts do not rise"
ladder_reason StartOffTick = codes "a start is no multiple of its own tick and the tick before"

-- the first fault, if there is one
abbrev pub or_else : Option LadderFault → Option LadderFault → Option LadderFault
or_else None g = g
or_else (Some f) g = Some f

-- what is described is taken, as P tells, exactly where it has no fault, and otherwise refused with the fault
abbrev pub TakenUnless : {A : Type 0} → Option LadderFault → (A → Type 0) → Result A LadderFault → Type 0
TakenUnless fault P r = MatchResult r (λ a. (fault ≡ None) × P a) (λ f. fault ≡ Some f)

-- a tick is 1 to 1,000,000 points
abbrev pub tick_fault : ℤ → Option LadderFault
tick_fault k = cond (int_le (pos 1) k && int_le k (pos 1000000)) None (Some TickOutOfRange)

-- a set has 1 to 16 ladders
abbrev pub size_fault : ℕ → Option LadderFault
size_fault zero = Some NoLadder
size_fault (suc n) = cond (nat_le (suc n) 16) None (Some TooManyLadders)
