-- What each call of the house answers, and what the house and the book hold afterwards.
use Rattle.std.specs.Prelude.{ℕ, Bool, true, false, cond, not, ◌&&◌, ℤ, Some, None, Ok, Err, Option, Result, nat_lt, unsigned_abs}
use Rattle.book.specs.Entries.{allowed, price_lawful, side_lawful}
use Rattle.book.specs.Ledgers.{Ledger, take_answer, with_taken}
use Rattle.book.specs.declared.days.Day.{Day}
use Rattle.book.specs.declared.entries.Entry.{Entry}
use Rattle.book.specs.declared.entries.Kind.{Kind}
use Rattle.book.specs.declared.entries.Kind.TheVariants.{Trade, Auction, Leg, Spread, Quote}
use Rattle.book.specs.declared.faults.BookFault.{BookFault}
use Rattle.book.specs.declared.faults.BookFault.TheVariants.{BeyondLimits}
use Rattle.ladders.specs.Prices.{within}
use Rattle.rows.specs.declared.families.Family.{Family}
use Rattle.house.specs.Rolls.{Roll, changed, is_listed, none_listed, with_listed}
use Rattle.house.specs.Terms.{checked, follows}
use Rattle.house.specs.declared.faults.HouseFault.{HouseFault}
use Rattle.house.specs.declared.faults.HouseFault.TheVariants.{WrongPhase, SeriesFull, NoSuchSeries, SuppliedBeyondLimits, OffLadder, SpreadNotFollowing, Book}
use Rattle.house.specs.declared.phases.Bell.{Bell}
use Rattle.house.specs.declared.phases.Bell.TheVariants as bells
use Rattle.house.specs.declared.phases.Phase.{Phase}
use Rattle.house.specs.declared.phases.Phase.TheVariants as phases
use Rattle.house.specs.declared.series.Ruling.{Ruling}
use Rattle.house.specs.declared.series.Series.{Series}
use Rattle.house.specs.declared.terms.Listing.{Listing}
use Rattle.house.specs.declared.terms.Terms.{Terms}

-- what changes in a house: its phase and its listed series; its ladder set stays
pub record State : Type 0 where
  pub phase : Phase
  pub roll : Roll

abbrev pub new_state : State
new_state = record { phase = phases.Listing; roll = none_listed }

-- a call is refused by the first demand that it does not meet
abbrev pub demand : {A : Type 0} → Bool → HouseFault → Result A HouseFault → Result A HouseFault
demand met fault more = cond met more (Err fault)

-- a refusal comes before what would follow
abbrev pub then : {A : Type 0} → Result Unit HouseFault → Result A HouseFault → Result A HouseFault
then (Ok u) more = more
then (Err fault) more = Err fault

-- a refused call leaves all as it was
abbrev pub moved : {A S : Type 0} → Result A HouseFault → (A → S) → S → S
moved (Ok a) taken before = taken a
moved (Err fault) taken before = before

-- the answer of a call that found something
abbrev pub ok_with : {A C : Type 0} → C → Result A HouseFault → Result C HouseFault
ok_with c (Ok a) = Ok c
ok_with c (Err fault) = Err fault

-- ---- bells

-- the open bell turns listing into trading, the close bell trading into closed; no other bell may ring
abbrev pub rung : Phase → Bell → Result Phase HouseFault
rung phases.Listing bells.Open = Ok phases.Trading
rung phases.Listing bells.Close = Err WrongPhase
rung phases.Trading bells.Open = Err WrongPhase
rung phases.Trading bells.Close = Ok phases.Closed
rung phases.Closed bells.Open = Err WrongPhase
rung phases.Closed bells.Close = Err WrongPhase

abbrev pub bell_answer : Bell → State → Result Unit HouseFault
bell_answer b s = ok_with tt (rung s.phase b)

abbrev pub bell_after : Bell → State → State
bell_after b s = moved (rung s.phase b) (λ p. record { phase = p; roll = s.roll }) s

-- ---- listing

abbrev pub is_listing : Phase → Bool
is_listing phases.Listing = true
is_listing phases.Trading = false
is_listing phases.Closed = false

-- the terms under which a series is listed, over a set of so many ladders
abbrev pub listed_terms : ℕ → Listing → State → Result Terms HouseFault
listed_terms ladders t s =
    demand (is_listing s.phase) WrongPhase
    (demand (nat_lt s.roll.count 32) SeriesFull
    (checked s.roll.count ladders t))

-- the answer is the number of the series
abbrev pub list_answer : ℕ → Listing → State → Result ℕ HouseFault
list_answer ladders t s = ok_with s.roll.count (listed_terms ladders t s)

abbrev pub list_after : ℕ → Listing → State → State
list_after ladders t s = moved (listed_terms ladders t s) (λ terms. record { phase = s.phase; roll = with_listed terms s.roll }) s

-- ---- entries

abbrev pub is_trading : Phase → Bool
is_trading phases.Listing = false
is_trading phases.Trading = true
is_trading phases.Closed = false

-- a spread is for a series that follows another
abbrev pub may_have : Family → Kind → Bool
may_have f (Trade p n) = true
may_have f (Auction p n) = true
may_have f (Leg p n) = true
may_have f (Spread v) = follows f
may_have f (Quote b a) = true

-- a price within the limit that is lawful on its ladder
abbrev pub on_ladder : (ℤ → Bool) → ℤ → Bool
on_ladder lawful v = within v && lawful v

abbrev pub side_on_ladder : (ℤ → Bool) → Option ℤ → Bool
side_on_ladder lawful None = true
side_on_ladder lawful (Some v) = on_ladder lawful v

-- a spread is a difference of prices, and on no ladder
abbrev pub kind_on_ladder : (ℤ → Bool) → Kind → Bool
kind_on_ladder lawful (Trade p n) = on_ladder lawful p
kind_on_ladder lawful (Auction p n) = on_ladder lawful p
kind_on_ladder lawful (Leg p n) = on_ladder lawful p
kind_on_ladder lawful (Spread v) = true
kind_on_ladder lawful (Quote b a) = side_on_ladder lawful b && side_on_ladder lawful a

-- the series that a number names
abbrev pub series_of : ℤ → State → Series
series_of n s = s.roll.series (unsigned_abs n)

-- what is demanded of an entry by the day of the book, and by the terms of its series over the lawful prices of each ladder
abbrev pub entry_check : (ℕ → ℤ → Bool) → Day → Entry → Terms → Result Unit HouseFault
entry_check lawful d e t =
    demand (allowed d e) (Book BeyondLimits)
    (demand (may_have t.family e.kind) SpreadNotFollowing
    (demand (kind_on_ladder (lawful t.ladder) e.kind) OffLadder
    (Ok tt)))

-- a listed series comes before that, and trading before all
abbrev pub entry_passed : (ℕ → ℤ → Bool) → Day → Entry → State → Result Unit HouseFault
entry_passed lawful d e s =
    demand (is_trading s.phase) WrongPhase
    (demand (is_listed s.roll.count e.series) NoSuchSeries
    (entry_check lawful d e (series_of e.series s).terms))

-- the book's own refusal, as the house tells it
abbrev pub by_book : Result Unit BookFault → Result Unit HouseFault
by_book (Ok u) = Ok u
by_book (Err fault) = Err (Book fault)

-- and then the book answers
abbrev pub entry_answer : (ℕ → ℤ → Bool) → Ledger → Entry → State → Result Unit HouseFault
entry_answer lawful m e s = then (entry_passed lawful m.day e s) (by_book (take_answer m e))

-- the book takes what the house does not refuse; the house stays as it is
abbrev pub entry_after : (ℕ → ℤ → Bool) → Entry → State → Ledger → Ledger
entry_after lawful e s m = moved (entry_answer lawful m e s) (λ _. with_taken m e) m

-- ---- supplied values, in every phase

abbrev pub theory_answer : ℤ → Option ℤ → State → Result Unit HouseFault
theory_answer n value s =
    demand (is_listed s.roll.count n) NoSuchSeries
    (demand (side_lawful value) SuppliedBeyondLimits
    (Ok tt))

abbrev pub with_theory : Option ℤ → Series → Series
with_theory value x = record { terms = x.terms; theory = value; ruling = x.ruling }

abbrev pub theory_after : ℤ → Option ℤ → State → State
theory_after n value s =
    moved (theory_answer n value s)
    (λ _. record { phase = s.phase; roll = changed (unsigned_abs n) (with_theory value (series_of n s)) s.roll }) s

-- a ruling that is cleared has no first mark
abbrev pub may_rule : Option ℤ → Bool → Bool
may_rule None first = not first
may_rule (Some v) first = price_lawful v

abbrev pub ruling_of : Option ℤ → Bool → Option Ruling
ruling_of None first = None
ruling_of (Some v) first = Some (record { value = v; first = first })

abbrev pub ruling_answer : ℤ → Option ℤ → Bool → State → Result Unit HouseFault
ruling_answer n value first s =
    demand (is_listed s.roll.count n) NoSuchSeries
    (demand (may_rule value first) SuppliedBeyondLimits
    (Ok tt))

abbrev pub with_ruling : Option Ruling → Series → Series
with_ruling ruling x = record { terms = x.terms; theory = x.theory; ruling = ruling }

abbrev pub ruling_after : ℤ → Option ℤ → Bool → State → State
ruling_after n value first s =
    moved (ruling_answer n value first s)
    (λ _. record { phase = s.phase; roll = changed (unsigned_abs n) (with_ruling (ruling_of value first) (series_of n s)) s.roll }) s
