use Rattle.std.proofs.Common.{pos, negsuc, refl, sym, subst, arith}
use Rattle.std.specs.List.{AllByRecursion}
use Rattle.house.specs.Worked.{Holds, worked_prices}
use Rattle.house.proofs.OnTick.{above_by, nearest_by}
use Rattle.house.proofs.worked.worked_prices.Goals as goal

-- what holds of a member, and what holds of those after it
infixr 3 ◌&◌
◌&◌ : {A B : Type 0} → A → B → A × B
◌&◌ a b = (a, b)

all_hold : AllByRecursion Holds worked_prices
all_hold =
    nearest_by 10000 (pos 38514999) 1 (pos 38510000) (omega arith) (omega arith) refl
    & nearest_by 10 (negsuc 14) 1 (negsuc 9) (omega arith) (omega arith) refl
    & nearest_by 10 (negsuc 15) 1 (negsuc 19) (omega arith) (omega arith) refl
    & above_by 10 (pos 101) (pos 110) (omega arith) refl
    & above_by 10 (negsuc 100) (negsuc 99) (omega arith) refl
    & nearest_by 10 (pos 230) 2 (pos 120) (omega arith) (omega arith) refl
    & (pos 38514999, refl, (refl, nearest_by 10000 (pos 38514999) 1 (pos 38510000) (omega arith) (omega arith) refl))
    & (negsuc 14, refl, (refl, nearest_by 10 (negsuc 14) 1 (negsuc 9) (omega arith) (omega arith) refl))
    & (negsuc 15, refl, (refl, nearest_by 10 (negsuc 15) 1 (negsuc 19) (omega arith) (omega arith) refl))
    & (pos 101, refl, refl, above_by 10 (pos 101) (pos 110) (omega arith) refl)
    & (negsuc 100, refl, refl, above_by 10 (negsuc 100) (negsuc 99) (omega arith) refl)
    & (λ t. (pos 100, pos 130, refl, (refl, nearest_by 10 (pos 230) 2 (pos 120) (omega arith) (omega arith) refl)))
    & (λ t. (pos 145200, negsuc 29, refl, refl, refl))
    & (λ d capacity. (refl, refl))
    & tt

pub returns-clause-hold : goal.returns-clause-hold
returns-clause-hold c = subst (AllByRecursion Holds) (sym c.members.ensures) all_hold
