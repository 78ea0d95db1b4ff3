-- The number of each family.
use Rattle.std.specs.Prelude.{ℕ, List, [], ◌∷◌, map, ℤ, pos, negsuc, Some, None, Option, slice_index_or}
use Rattle.rows.specs.declared.families.Family.{Family}
use Rattle.rows.specs.declared.families.Family.TheVariants.{LongBond, FollowingBond, OtherBond, MiniBond, ThreeMonthRate, FrontIndex, LaterIndex, CopiedIndex, TheoryIndex, ForeignIndex, DeliveredCommodity, CashCommodity, DeliveredGrain, NearOption, OtherOption}

abbrev pub number : Family → ℕ
number LongBond = 1
number FollowingBond = 2
number OtherBond = 3
number MiniBond = 4
number ThreeMonthRate = 5
number FrontIndex = 6
number LaterIndex = 7
number CopiedIndex = 8
number TheoryIndex = 9
number ForeignIndex = 10
number DeliveredCommodity = 11
number CashCommodity = 12
number DeliveredGrain = 13
number NearOption = 14
number OtherOption = 15

-- the families in the order of their numbers, from 1 on
abbrev pub all_families : List Family
all_families =
    LongBond ∷ FollowingBond ∷ OtherBond ∷ MiniBond ∷ ThreeMonthRate ∷ FrontIndex ∷ LaterIndex ∷ CopiedIndex ∷ TheoryIndex ∷ ForeignIndex
    ∷ DeliveredCommodity ∷ CashCommodity ∷ DeliveredGrain ∷ NearOption ∷ OtherOption ∷ []

-- the family of each number, from 0 on
abbrev pub families : List (Option Family)
families = None ∷ map Some all_families

abbrev pub family_of : ℤ → Option Family
family_of (pos n) = slice_index_or families n None
family_of (negsuc n) = None
