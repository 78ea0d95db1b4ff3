-- A stepped ladder as it is described: a first band without a start, and later bands that each begin at their start. A
-- band ends just under the next, and its lawful prices are the multiples of its tick.
use Rattle.std.specs.Prelude.{Bool, true, false, cond, ◌&&◌, List, [], ◌∷◌, map, length, ℤ, pos, Some, None, Option, int_lt, nat_le, unsigned_abs}
use Rattle.ladders.specs.Faults.{or_else, tick_fault}
use Rattle.ladders.specs.Multiples.{multiple}
use Rattle.ladders.specs.Prices.{within}
use Rattle.ladders.specs.declared.bands.Band.{Band}
use Rattle.ladders.specs.declared.bands.LaterBand.{LaterBand}
use Rattle.ladders.specs.declared.faults.LadderFault.{LadderFault}
use Rattle.ladders.specs.declared.faults.LadderFault.TheVariants.{NoBand, TooManyBands, StartMisplaced, StartOutOfRange, StartsNotRising, StartOffTick}
use Rattle.ladders.specs.declared.ticks.Tick.{Tick}

-- v lies under a start; no number lies under a band that has none
abbrev pub under : ℤ → Option ℤ → Bool
under v None = false
under v (Some s) = int_lt v s

-- the tick of the band that v lies in, from a band of tick k on
abbrev pub tick_at : ℤ → List Band → ℤ → ℤ
tick_at k [] v = k
tick_at k (b ∷ bs) v = cond (under v b.start) k (tick_at b.tick bs v)

-- the lawful prices of the bands
abbrev pub in_bands : List Band → ℤ → Bool
in_bands [] v = true
in_bands (b ∷ bs) v = multiple (unsigned_abs (tick_at b.tick bs v)) v

-- ---- which descriptions are lawful

-- a start lies over the start before, if that band has one
abbrev pub rises : Option ℤ → ℤ → Bool
rises None s = true
rises (Some a) s = int_lt a s

-- a later band's start lies within the price limit and over the start before, and is a multiple of the tick before and of
-- the band's own
abbrev pub start_fault : Band → ℤ → Option ℤ → Option LadderFault
start_fault a k None = Some StartMisplaced
start_fault a k (Some s) =
    cond (within s)
    (cond (rises a.start s)
    (cond (multiple (unsigned_abs a.tick) s && multiple (unsigned_abs k) s) None (Some StartOffTick))
    (Some StartsNotRising))
    (Some StartOutOfRange)

-- a band b that follows the band a
abbrev pub band_fault : Band → Band → Option LadderFault
band_fault a b = or_else (tick_fault b.tick) (start_fault a b.tick b.start)

abbrev pub later_fault : Band → List Band → Option LadderFault
later_fault a [] = None
later_fault a (b ∷ bs) = or_else (band_fault a b) (later_fault b bs)

-- the first band has no start
abbrev pub no_start : Option ℤ → Option LadderFault
no_start None = None
no_start (Some s) = Some StartMisplaced

abbrev pub first_fault : Band → Option LadderFault
first_fault b = or_else (no_start b.start) (tick_fault b.tick)

-- a ladder has 1 to 4 bands
abbrev pub ladder_fault : List Band → Option LadderFault
ladder_fault [] = Some NoBand
ladder_fault (b ∷ bs) =
    cond (nat_le (length bs) 3) (or_else (first_fault b) (later_fault b bs)) (Some TooManyBands)

-- ---- a checked ladder's own description

abbrev pub band : Option ℤ → Tick → Band
band s t = record { start = s; tick = pos t.points }

abbrev pub described : LaterBand → Band
described b = band (Some b.start) b.tick

abbrev pub description : Tick → List LaterBand → List Band
description t bs = band None t ∷ map described bs
