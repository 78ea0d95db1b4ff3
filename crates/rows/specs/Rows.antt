-- The rows of steps by which each family is settled, in the letters of the steps.
use Rattle.std.specs.Prelude.{ℕ, List, [], ◌∷◌, Some, None}
use Rattle.rows.specs.declared.families.Family.{Family}
use Rattle.rows.specs.declared.families.Family.TheVariants.{LongBond, FollowingBond, OtherBond, MiniBond, ThreeMonthRate, FrontIndex, LaterIndex, CopiedIndex, TheoryIndex, ForeignIndex, DeliveredCommodity, CashCommodity, DeliveredGrain, NearOption, OtherOption}
use Rattle.rows.specs.declared.places.Choice.{Choice}
use Rattle.rows.specs.declared.places.Choice.TheVariants.{Close, LastDay, QuarterEnd, Morning}
use Rattle.rows.specs.declared.places.Place.{Place}
use Rattle.rows.specs.declared.steps.Step.{Step}
use Rattle.rows.specs.declared.steps.Step.TheVariants.{Auction, Trade, Quote, Average, Theory, TheoryUp, Spread, PreviousSpread, Copy, Previous, Ruling}

-- a step that looks in a window, and one that does not
abbrev in_window : Step → ℕ → Place
in_window s w = record { step = s; window = Some w }

abbrev alone : Step → Place
alone s = record { step = s; window = None }

abbrev pub A : ℕ → Place
A w = in_window Auction w

abbrev pub L : ℕ → Place
L w = in_window Trade w

abbrev pub Q : ℕ → Place
Q w = in_window Quote w

abbrev pub V : ℕ → Place
V w = in_window Average w

abbrev pub S : ℕ → Place
S w = in_window Spread w

abbrev pub T : Place
T = alone Theory

abbrev pub U : Place
U = alone TheoryUp

abbrev pub P : Place
P = alone PreviousSpread

abbrev pub C : Place
C = alone Copy

abbrev pub B : Place
B = alone Previous

abbrev pub D : Place
D = alone Ruling

abbrev pub close : Family → List Place
close LongBond = A 4 ∷ L 1 ∷ T ∷ []
close FollowingBond = S 1 ∷ P ∷ []
close OtherBond = A 4 ∷ Q 4 ∷ L 3 ∷ L 2 ∷ T ∷ []
close MiniBond = C ∷ []
close ThreeMonthRate = A 4 ∷ Q 4 ∷ L 4 ∷ T ∷ D ∷ []
close FrontIndex = L 5 ∷ T ∷ D ∷ []
close LaterIndex = T ∷ D ∷ []
close CopiedIndex = C ∷ []
close TheoryIndex = T ∷ []
close ForeignIndex = A 2 ∷ Q 2 ∷ L 1 ∷ D ∷ []
close DeliveredCommodity = L 1 ∷ D ∷ []
close CashCommodity = L 1 ∷ B ∷ []
close DeliveredGrain = V 6 ∷ L 1 ∷ B ∷ C ∷ []
close NearOption = L 5 ∷ U ∷ []
close OtherOption = U ∷ []

abbrev pub morning : Family → List Place
morning LongBond = L 8 ∷ D ∷ B ∷ []
morning FollowingBond = L 8 ∷ D ∷ B ∷ []
morning OtherBond = L 8 ∷ D ∷ B ∷ []
morning MiniBond = L 8 ∷ D ∷ B ∷ []
morning ThreeMonthRate = L 9 ∷ D ∷ []
morning FrontIndex = L 10 ∷ T ∷ D ∷ []
morning LaterIndex = L 10 ∷ T ∷ D ∷ []
morning CopiedIndex = C ∷ []
morning TheoryIndex = T ∷ []
morning ForeignIndex = Q 12 ∷ L 12 ∷ B ∷ []
morning DeliveredCommodity = L 11 ∷ D ∷ []
morning CashCommodity = L 11 ∷ B ∷ []
morning DeliveredGrain = L 12 ∷ B ∷ []
morning NearOption = L 13 ∷ U ∷ []
morning OtherOption = U ∷ []

-- two families have a row of their own for their last day, and two for the end of a quarter; the others close as on any day
abbrev pub last_day : Family → List Place
last_day LongBond = close LongBond
last_day FollowingBond = close FollowingBond
last_day OtherBond = close OtherBond
last_day MiniBond = close MiniBond
last_day ThreeMonthRate = close ThreeMonthRate
last_day FrontIndex = close FrontIndex
last_day LaterIndex = close LaterIndex
last_day CopiedIndex = close CopiedIndex
last_day TheoryIndex = close TheoryIndex
last_day ForeignIndex = close ForeignIndex
last_day DeliveredCommodity = V 2 ∷ L 1 ∷ B ∷ []
last_day CashCommodity = close CashCommodity
last_day DeliveredGrain = V 7 ∷ L 1 ∷ B ∷ C ∷ []
last_day NearOption = close NearOption
last_day OtherOption = close OtherOption

abbrev pub quarter_end : Family → List Place
quarter_end LongBond = close LongBond
quarter_end FollowingBond = close FollowingBond
quarter_end OtherBond = close OtherBond
quarter_end MiniBond = close MiniBond
quarter_end ThreeMonthRate = close ThreeMonthRate
quarter_end FrontIndex = T ∷ D ∷ []
quarter_end LaterIndex = close LaterIndex
quarter_end CopiedIndex = close CopiedIndex
quarter_end TheoryIndex = close TheoryIndex
quarter_end ForeignIndex = close ForeignIndex
quarter_end DeliveredCommodity = close DeliveredCommodity
quarter_end CashCommodity = close CashCommodity
quarter_end DeliveredGrain = close DeliveredGrain
quarter_end NearOption = U ∷ []
quarter_end OtherOption = close OtherOption

abbrev pub row : Family → Choice → List Place
row f Close = close f
row f LastDay = last_day f
row f QuarterEnd = quarter_end f
row f Morning = morning f
