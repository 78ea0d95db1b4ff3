-- How far a settled price can pass the price limit of 1,000,000,000: by at most the largest tick, 1,000,000 points, where it was
-- rounded, and by at most 100,000,000, the largest spread, for each earlier series.
use Rattle.std.specs.Prelude.{ℕ, ◌+◌, ◌*◌, ◌≤◌, ℤ, Option, Result, IfSome, IfOk, unsigned_abs}
use Rattle.house.specs.declared.answers.Settlement.{Settlement}
use Rattle.house.specs.declared.answers.TimedPrice.{TimedPrice}

-- of the series numbered n, which has n earlier ones
abbrev pub reach : ℕ → ℕ
reach n = 1001000000 + n * 100000000

-- a price of the series numbered n
abbrev pub InReach : ℕ → Option ℤ → Type 0
InReach n p = IfSome p (λ v. unsigned_abs v ≤ reach n)

-- with whatever time
abbrev pub TimedInReach : ℕ → Option TimedPrice → Type 0
TimedInReach n p = IfSome p (λ v. unsigned_abs v.price ≤ reach n)

-- a price of an earlier series: one spread less
abbrev pub InReachBefore : ℕ → Option ℤ → Type 0
InReachBefore n p = IfSome p (λ v. unsigned_abs v + 100000000 ≤ reach n)

abbrev pub FoundInReach : ℕ → Option Settlement → Type 0
FoundInReach n o = IfSome o (λ s. unsigned_abs s.price ≤ reach n)

-- what is answered of the series numbered n, whatever its refusals are
abbrev pub AnswerInReach : {E : Type 0} → ℕ → Result Settlement E → Type 0
AnswerInReach n r = IfOk r (λ s. unsigned_abs s.price ≤ reach n)
