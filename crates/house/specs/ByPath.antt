-- An answer rests on the stations of the path alone.
use Rattle.std.specs.Prelude.{◌≡◌, ℕ, Bool, true, ℤ, Result, unsigned_abs}
use Rattle.std.specs.List.{AllByRecursion}
use Rattle.book.specs.Ledgers.{Ledger}
use Rattle.rows.specs.declared.places.Edition.{Edition}
use Rattle.house.specs.Answers.{path, station}
use Rattle.house.specs.Calls.{State}
use Rattle.house.specs.Found.{Station}
use Rattle.house.specs.Questions.{is_open, settle_answer}
use Rattle.house.specs.Rolls.{is_listed}
use Rattle.house.specs.declared.answers.Settlement.{Settlement}
use Rattle.house.specs.declared.faults.HouseFault.{HouseFault}

-- a price of the series may be asked for in a house of this state: the edition is open and the series listed
pub record MayAsk (ed : Edition) (n : ℤ) (s : State) : Type 0 where
  pub opened : is_open s.phase ed ≡ true
  pub listed : is_listed s.roll.count n ≡ true

-- two stations of one number, with the same terms and supplied values, and in every window the same figures
pub record SameStation (x y : Station) : Type 0 where
  pub number : x.number ≡ y.number
  pub series : x.series ≡ y.series
  pub figures : (w : ℕ) → x.figures w ≡ y.figures w

-- each station on the path of the series numbered n, in a house of this state with a book of this meaning, is the same in the
-- other; so the references behind the series are too
abbrev pub SamePath : ℕ → State → Ledger → State → Ledger → Type 0
SamePath n s m t k = AllByRecursion (λ r. SameStation (station s m r) (station t k r)) (path s.roll.series n)

-- what is answered of the series where it may be asked for is answered by every house over these lawful prices, in whatever state
-- and with whatever book, where it may be asked for too and the stations on the path are the same
abbrev pub ByPath : (ℕ → ℤ → Bool) → Edition → State → Ledger → ℤ → Result Settlement HouseFault → Type 0
ByPath lawful ed s m n r =
    (t : State) (k : Ledger) → MayAsk ed n s → MayAsk ed n t → SamePath (unsigned_abs n) s m t k → r ≡ settle_answer lawful ed n t k
