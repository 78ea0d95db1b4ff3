-- The listed series as a roll.
use Rattle.house.specs.Rolls.{Roll, roll}
use Rattle.house.specs.declared.listed.Listed.{Listed}

abbrev pub roll_of : Listed → Roll
roll_of l = roll l.count l.slots
