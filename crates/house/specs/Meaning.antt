-- What is answered of a series, as relations in the words of the rules.
use Rattle.std.specs.Prelude.{◌≡◌, ℕ, ◌+◌, ◌<◌, Bool, true, false, ◌&&◌, ◌⊎◌, List, [], ◌∷◌, map, ℤ, Some, None, Ok, Err, Option, Result, unsigned_abs}
use Rattle.book.specs.Ledgers.{Ledger}
use Rattle.rows.specs.Codes.{at}
use Rattle.rows.specs.declared.places.Edition.{Edition}
use Rattle.rows.specs.declared.places.Place.{Place}
use Rattle.rows.specs.declared.steps.Step as steps
use Rattle.house.specs.Answers.{Answer, price_of, row_of, some_refers, station, time_of}
use Rattle.house.specs.ByPath.{MayAsk}
use Rattle.house.specs.Calls.{State}
use Rattle.house.specs.FindsPrice.{PlaceFinds, PlaceHasTime}
use Rattle.house.specs.Found.{Station}
use Rattle.house.specs.Questions.{is_open, or_no_price}
use Rattle.house.specs.Rolls.{is_listed}
use Rattle.house.specs.declared.answers.Settlement.{Settlement}
use Rattle.house.specs.declared.faults.HouseFault.{HouseFault}
use Rattle.house.specs.declared.faults.HouseFault.TheVariants.{NoSuchSeries, WrongPhase}
use Rattle.house.specs.declared.series.Ruling.{Ruling}
use Rattle.house.specs.declared.series.Series.{Series}

-- ---- one series, with what is answered of its reference, if it has one

-- whether a ruling stands with the first mark
abbrev pub is_first : Option Ruling → Bool
is_first None = false
is_first (Some r) = r.first

-- a settlement by a ruling with the first mark, which has place 0 and no time
pub record RuledFirst (o : Option Ruling) (s : Settlement) : Type 0 where
  pub ruling : Ruling
  pub stands : o ≡ Some ruling
  pub first : ruling.first ≡ true
  pub price : s.price ≡ ruling.value
  pub step : s.step ≡ steps.TheVariants.Ruling
  pub place : s.place ≡ 0
  pub time : s.time ≡ None

-- a settlement at a position of the row: the place there has the step, finds the price and has the time, and no earlier place finds
-- a price
pub record StandsAt (Finds : Place → ℤ → Type 0) (Has : Place → Option ℤ → Type 0) (ps : List Place) (s : Settlement) : Type 0 where
  pub position : ℕ
  pub place : Place
  pub stands : at ps position ≡ Some place
  pub counted : s.place ≡ position + 1
  pub step : place.step ≡ s.step
  pub price : Finds place s.price
  pub time : Has place s.time
  pub before : (k : ℕ) (q : Place) (p : ℤ) → k < position → at ps k ≡ Some q → Finds q p → ⊥

-- whether there is a reference and it is refused
abbrev pub is_refused : Option Answer → Bool
is_refused None = false
is_refused (Some (Ok s)) = false
is_refused (Some (Err o)) = true

-- where a refusal comes from: the reference's origin, if some step of the row uses the reference and that is refused; else the
-- series itself, numbered n
abbrev pub ComesFrom : List Place → Option Answer → ℕ → ℕ → Type 0
ComesFrom ps reference n origin =
    ((some_refers ps ≡ true) × (reference ≡ Some (Err origin)))
    ⊎ (((some_refers ps && is_refused reference) ≡ false) × (origin ≡ n))

-- a refusal: no ruling stands with the first mark, and no place of the row finds a price
pub record Refused (lawful : ℕ → ℤ → Bool) (ed : Edition) (x : Station) (reference : Option Answer) (origin : ℕ) : Type 0 where
  pub unruled : is_first x.series.ruling ≡ false
  pub nothing : (k : ℕ) (q : Place) (p : ℤ) → at (row_of x.series ed) k ≡ Some q → PlaceFinds lawful (price_of reference) x q p → ⊥
  pub from : ComesFrom (row_of x.series ed) reference x.number origin

-- the answer of a series, with that of its reference: a settlement by a ruling with the first mark, else by the row, or a refusal
abbrev pub Settles : (ℕ → ℤ → Bool) → Edition → Station → Option Answer → Answer → Type 0
Settles lawful ed x reference (Ok s) =
    RuledFirst x.series.ruling s
    ⊎ ((is_first x.series.ruling ≡ false)
    × StandsAt (PlaceFinds lawful (price_of reference) x) (PlaceHasTime (time_of reference) x) (row_of x.series ed) s)
Settles lawful ed x reference (Err origin) = Refused lawful ed x reference origin

-- ---- along the path

-- the answer of a series with the stations behind it, the first of which, if there is one, is its reference: it rests on that one's
-- answer in the same edition
abbrev pub AnswerOf : (ℕ → ℤ → Bool) → Edition → Station → List Station → Answer → Type 0
AnswerOf lawful ed x [] a = Settles lawful ed x None a
AnswerOf lawful ed x (y ∷ ys) a = (b : Answer) × AnswerOf lawful ed y ys b × Settles lawful ed x (Some b) a

-- the references behind a series: its own, if it has one, then that one's, and so on to one that has none
abbrev pub AreReferences : (ℕ → Series) → Option ℕ → List ℕ → Type 0
AreReferences all own [] = own ≡ None
AreReferences all own (n ∷ ns) = (own ≡ Some n) × AreReferences all (all n).terms.reference ns

-- ---- the house

-- the answer of the series numbered n is told, in a house of this state with a book of this meaning
pub record TellsAnswer (lawful : ℕ → ℤ → Bool) (ed : Edition) (s : State) (m : Ledger) (n : ℕ) (r : Result Settlement HouseFault) : Type 0 where
  pub numbers : List ℕ
  pub references : AreReferences s.roll.series (s.roll.series n).terms.reference numbers
  pub answer : Answer
  pub stands : AnswerOf lawful ed (station s m n) (map (station s m) numbers) answer
  pub told : r ≡ or_no_price answer

-- a question is refused while the edition is not open, then for a series that is not listed; else it is answered
pub record Explained (lawful : ℕ → ℤ → Bool) (ed : Edition) (s : State) (m : Ledger) (n : ℤ) (r : Result Settlement HouseFault) : Type 0 where
  pub not_open : is_open s.phase ed ≡ false → r ≡ Err WrongPhase
  pub not_listed : is_open s.phase ed ≡ true → is_listed s.roll.count n ≡ false → r ≡ Err NoSuchSeries
  pub asked : MayAsk ed n s → TellsAnswer lawful ed s m (unsigned_abs n) r

-- ---- one answer

-- any two answers of a series with the same stations behind it are equal, in price, step, place and time or in the origin; and so are any
-- two results of a question that are explained
pub record OneAnswer : Type 0 where
  pub answer :
      (lawful : ℕ → ℤ → Bool) (ed : Edition) (x : Station) (xs : List Station) (a b : Answer)
      → AnswerOf lawful ed x xs a
      → AnswerOf lawful ed x xs b
      → a ≡ b
  pub result :
      (lawful : ℕ → ℤ → Bool) (ed : Edition) (s : State) (m : Ledger) (n : ℤ) (r q : Result Settlement HouseFault)
      → Explained lawful ed s m n r
      → Explained lawful ed s m n q
      → r ≡ q
