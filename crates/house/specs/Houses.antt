-- A house as its contracts see it: its ladder set, and its state.
use Rattle.house.specs.Calls.{State}
use Rattle.house.specs.ListedRoll.{roll_of}
use Rattle.house.specs.declared.houses.House.{House}

-- `bound` is what it gives that L is a ladder set, here and wherever a house is named
abbrev pub state : {L : Type 0} {bound : _} → House L bound → State
state h = record { phase = h.phase; roll = roll_of h.listed }

abbrev pub set_of : {L : Type 0} {bound : _} → House L bound → L
set_of h = h.set
