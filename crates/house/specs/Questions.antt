-- The question for a price.
use Rattle.std.specs.Prelude.{ℕ, Bool, true, false, ℤ, Ok, Err, Result, unsigned_abs}
use Rattle.book.specs.Ledgers.{Ledger}
use Rattle.rows.specs.declared.places.Edition.{Edition}
use Rattle.rows.specs.declared.places.Edition.TheVariants.{Close, Morning}
use Rattle.house.specs.Answers.{Answer, answer_at}
use Rattle.house.specs.Calls.{State, demand}
use Rattle.house.specs.Rolls.{is_listed}
use Rattle.house.specs.declared.answers.Settlement.{Settlement}
use Rattle.house.specs.declared.faults.HouseFault.{HouseFault}
use Rattle.house.specs.declared.faults.HouseFault.TheVariants.{NoPrice, NoSuchSeries, WrongPhase}
use Rattle.house.specs.declared.phases.Phase.{Phase}
use Rattle.house.specs.declared.phases.Phase.TheVariants as phases

-- the morning edition is open while trading and when closed, the close edition when closed
abbrev pub is_open : Phase → Edition → Bool
is_open phases.Listing ed = false
is_open phases.Trading Close = false
is_open phases.Trading Morning = true
is_open phases.Closed ed = true

-- no step finds a price: the refusal tells its origin
abbrev pub or_no_price : Answer → Result Settlement HouseFault
or_no_price (Ok s) = Ok s
or_no_price (Err origin) = Err (NoPrice origin)

abbrev pub settle_answer : (ℕ → ℤ → Bool) → Edition → ℤ → State → Ledger → Result Settlement HouseFault
settle_answer lawful ed n s m =
    demand (is_open s.phase ed) WrongPhase
    (demand (is_listed s.roll.count n) NoSuchSeries
    (or_no_price (answer_at lawful ed s m (unsigned_abs n))))
