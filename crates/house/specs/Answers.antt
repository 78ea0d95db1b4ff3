-- The answer for a series, from the stations of its path.
use Rattle.std.specs.Prelude.{ℕ, zero, suc, ◌+◌, Bool, true, false, cond, ◌||◌, List, [], ◌∷◌, map, ℤ, Some, None, Ok, Err, Option, Result}
use Rattle.book.specs.Ledgers.{Ledger}
use Rattle.rows.specs.Chosen.{chosen}
use Rattle.rows.specs.Rows.{row}
use Rattle.rows.specs.declared.places.Edition.{Edition}
use Rattle.rows.specs.declared.places.Place.{Place}
use Rattle.rows.specs.declared.steps.Step.{Step}
use Rattle.rows.specs.declared.steps.Step.TheVariants.{Auction, Trade, Quote, Average, Theory, TheoryUp, Spread, PreviousSpread, Copy, Previous, Ruling}
use Rattle.house.specs.Calls.{State}
use Rattle.house.specs.Found.{Station, found}
use Rattle.house.specs.declared.answers.Settlement.{Settlement}
use Rattle.house.specs.declared.answers.TimedPrice.{TimedPrice}
use Rattle.house.specs.declared.series.Ruling as rulings
use Rattle.house.specs.declared.series.Series.{Series}

-- a settlement, or the number of the series from which the refusal comes
abbrev pub Answer : Type 0
Answer = Result Settlement ℕ

-- ---- one series, with the answer for its reference

-- the row by which a series is settled in an edition
abbrev pub row_of : Series → Edition → List Place
row_of s ed = row s.terms.family (chosen s.terms.family s.terms.marks ed)

-- the price that a place found, with its time, else what comes after it
abbrev pub or_later : Option TimedPrice → Step → ℕ → Option Settlement → Option Settlement
or_later None step k later = later
or_later (Some v) step k later = Some (record { price = v.price; step = step; place = k; time = v.time })

-- the first place that finds a price, counted from k
abbrev pub first_found : (Place → Option TimedPrice) → ℕ → List Place → Option Settlement
first_found find k [] = None
first_found find k (p ∷ ps) = or_later (find p) p.step k (first_found find (k + 1) ps)

-- the steps that use the reference
abbrev pub refers : Step → Bool
refers Auction = false
refers Trade = false
refers Quote = false
refers Average = false
refers Theory = false
refers TheoryUp = false
refers Spread = true
refers PreviousSpread = true
refers Copy = true
refers Previous = false
refers Ruling = false

abbrev pub some_refers : List Place → Bool
some_refers [] = false
some_refers (p ∷ ps) = refers p.step || some_refers ps

-- the reference's price, where there is a reference and it settles
abbrev pub price_of : Option Answer → Option ℤ
price_of None = None
price_of (Some (Ok s)) = Some s.price
price_of (Some (Err o)) = None

-- the time of its answer
abbrev pub time_of : Option Answer → Option ℤ
time_of None = None
time_of (Some (Ok s)) = s.time
time_of (Some (Err o)) = None

-- the reference's origin, where there is a reference and it is refused; else the series itself
abbrev pub origin_of : ℕ → Option Answer → ℕ
origin_of n None = n
origin_of n (Some (Ok s)) = n
origin_of n (Some (Err o)) = o

-- where the refusal of a series comes from: from its reference only if a step of its row uses it
abbrev pub origin : Edition → Station → Option Answer → ℕ
origin ed x reference = cond (some_refers (row_of x.series ed)) (origin_of x.number reference) x.number

abbrev pub or_refused : Option Settlement → ℕ → Answer
or_refused (Some s) o = Ok s
or_refused None o = Err o

-- by the row: the first place that finds a price, or a refusal
abbrev pub by_row : (ℕ → ℤ → Bool) → Edition → Station → Option Answer → Answer
by_row lawful ed x reference =
    or_refused (first_found (found lawful (price_of reference) (time_of reference) x) 1 (row_of x.series ed)) (origin ed x reference)

-- a ruling with the first mark comes before the row
abbrev pub ruled_first : Option rulings.Ruling → Answer → Answer
ruled_first None more = more
ruled_first (Some r) more = cond r.first (Ok (record { price = r.value; step = Ruling; place = 0; time = None })) more

abbrev pub answered : (ℕ → ℤ → Bool) → Edition → Station → Option Answer → Answer
answered lawful ed x reference = ruled_first x.series.ruling (by_row lawful ed x reference)

-- ---- along the path

-- the answer for a series, with the stations behind it: its reference, that one's reference, and so on
abbrev pub path_answer : (ℕ → ℤ → Bool) → Edition → Station → List Station → Answer
path_answer lawful ed x [] = answered lawful ed x None
path_answer lawful ed x (y ∷ ys) = answered lawful ed x (Some (path_answer lawful ed y ys))

-- the references behind the series numbered n; each is earlier, so that n steps reach the last
abbrev pub behind : ℕ → (ℕ → Series) → Option ℕ → List ℕ
behind k all None = []
behind zero all (Some r) = []
behind (suc k) all (Some r) = r ∷ behind k all (all r).terms.reference

abbrev pub references : (ℕ → Series) → ℕ → List ℕ
references all n = behind n all (all n).terms.reference

abbrev pub path : (ℕ → Series) → ℕ → List ℕ
path all n = n ∷ references all n

-- the station of a series with a book of this meaning
abbrev pub station_of : ℕ → Series → Ledger → Station
station_of n s m = record { number = n; series = s; figures = m.figures n }

-- in a house of this state
abbrev pub station : State → Ledger → ℕ → Station
station s m n = station_of n (s.roll.series n) m

abbrev pub answer_at : (ℕ → ℤ → Bool) → Edition → State → Ledger → ℕ → Answer
answer_at lawful ed s m n = path_answer lawful ed (station s m n) (map (station s m) (references s.roll.series n))
