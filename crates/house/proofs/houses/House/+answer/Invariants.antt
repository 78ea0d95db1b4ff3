use Rattle.house.proofs.houses.House.+answer.Given as goal

-- a reference is an earlier series
abbrev pub decreases-answer : goal.decreases-answer
decreases-answer g l = l.number
