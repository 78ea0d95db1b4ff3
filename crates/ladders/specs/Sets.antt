-- A set of ladders, numbered from 0.
use Rattle.std.specs.Prelude.{ℕ, zero, suc, Bool, true, List, [], ◌∷◌, length, ℤ, None, Option}
use Rattle.ladders.specs.Faults.{or_else, size_fault}
use Rattle.ladders.specs.declared.faults.LadderFault.{LadderFault}

-- which whole numbers are lawful on the ladder of a number: every one, where the list has no such ladder
abbrev pub lawful_at : {L : Type 0} → (L → ℤ → Bool) → List L → ℕ → ℤ → Bool
lawful_at holds [] n v = true
lawful_at holds (l ∷ ls) zero v = holds l v
lawful_at holds (l ∷ ls) (suc n) v = lawful_at holds ls n v

-- ---- which descriptions are lawful

abbrev pub each_fault : {D : Type 0} → (D → Option LadderFault) → List D → Option LadderFault
each_fault fault [] = None
each_fault fault (d ∷ ds) = or_else (fault d) (each_fault fault ds)

-- a set has 1 to 16 ladders, each with a lawful description
abbrev pub set_fault : {D : Type 0} → (D → Option LadderFault) → List D → Option LadderFault
set_fault fault ds = or_else (size_fault (length ds)) (each_fault fault ds)
