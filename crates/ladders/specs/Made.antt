-- What was made of a description: the points of a tick, the bands of a stepped ladder, the ladders of a set.
use Rattle.std.specs.Prelude.{ℕ, Bool, List, take, ℤ}
use Rattle.ladders.specs.Bands.{description}
use Rattle.ladders.specs.Multiples.{multiple}
use Rattle.ladders.specs.Sets.{lawful_at}
use Rattle.ladders.specs.declared.bands.Band.{Band}
use Rattle.ladders.specs.declared.sets.SetOf.{SetOf}
use Rattle.ladders.specs.declared.stepping.SteppedLadder.{SteppedLadder}
use Rattle.ladders.specs.declared.ticks.Tick.{Tick}

abbrev pub points_of : Tick → ℕ
points_of t = t.points

abbrev pub bands_of : SteppedLadder → List Band
bands_of l = description l.first (take l.count l.later)

abbrev pub size_of : {L : Type 0} → SetOf L → ℕ
size_of set = set.count

-- even ladders: the lawful prices of each are the multiples of its tick
abbrev pub even_prices : SetOf Tick → ℕ → ℤ → Bool
even_prices set = lawful_at (λ t. multiple (points_of t)) (take set.count set.ladders)
