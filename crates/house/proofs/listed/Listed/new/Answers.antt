use Rattle.std.proofs.Common.{ℕ, ap, arith}
use Rattle.house.specs.Series.{lawful_series}
use Rattle.house.proofs.Slots.{all_blank}
use Rattle.house.proofs.listed.Listed.new.Goals as goal

pub invariant_of-result : goal.invariant_of-result
invariant_of-result c =
    let none = λ (n : ℕ). all_blank 32 n _ c.blank-unused.ensures in
    record { few = omega arith; lawful = λ n. ap (lawful_series n) (none n); unused = λ n h. none n }

pub returns : goal.returns
returns c = λ i. record { count = 0; series = λ n. all_blank 32 n _ c.blank-unused.ensures i }
