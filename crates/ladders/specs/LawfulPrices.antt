-- Which prices are lawful on what is described, in the words of the rules. `lawful` tells it of every whole number.
use Rattle.std.specs.Prelude.{◌≡◌, ℕ, Bool, List, [], ◌∷◌, ◌++◌, ℤ, ◌≤ℤ◌, ◌<ℤ◌, Some, Option, IfSome, slice_get, unsigned_abs}
use Rattle.ladders.specs.Multiples.{multiple}
use Rattle.ladders.specs.declared.bands.Band.{Band}

-- on a ladder of one tick: exactly the multiples of the tick
abbrev pub PricesByTick : ℤ → (ℤ → Bool) → Type 0
PricesByTick k lawful = (v : ℤ) → lawful v ≡ multiple (unsigned_abs k) v

-- from a start on; the first band has none, and reaches down without end
abbrev pub FromStart : Option ℤ → ℤ → Type 0
FromStart start v = IfSome start (λ s. s ≤ℤ v)

-- under the start of the next band; the last band has no next, and reaches up without end
abbrev pub UnderNext : List Band → ℤ → Type 0
UnderNext [] v = Unit {0}
UnderNext (b ∷ bs) v = IfSome b.start (λ s. v <ℤ s)

-- on a ladder of bands: of the prices from the start of a band and under the next start, exactly the multiples of that
-- band's tick
abbrev pub PricesByBand : List Band → (ℤ → Bool) → Type 0
PricesByBand bands lawful =
    (front : List Band) (b : Band) (rest : List Band) (v : ℤ) → bands ≡ front ++ (b ∷ rest) → FromStart b.start v → UnderNext rest v → lawful v ≡ multiple (unsigned_abs b.tick) v

-- in a set: on each ladder as the description at its number tells
abbrev pub PricesByLadder : {D : Type 0} → (D → (ℤ → Bool) → Type 0) → List D → (ℕ → ℤ → Bool) → Type 0
PricesByLadder {D} told ds lawful = (n : ℕ) (d : D) → slice_get ds n ≡ Some d → told d (lawful n)
