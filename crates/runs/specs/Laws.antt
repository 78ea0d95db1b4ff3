-- Two runs, and what must be equal, raised or added in the evidence on the path of a series.
use Rattle.std.specs.Prelude.{◌≡◌, ℕ, ◌≤◌, Bool, true, List, length, ℤ, ◌≤ℤ◌, Ok, Err, Result, unsigned_abs}
use Rattle.std.specs.List.{AllZip, AllByRecursion}
use Rattle.book.specs.Ledgers.{Ledger}
use Rattle.book.specs.declared.days.Day.{Day}
use Rattle.book.specs.declared.entries.Entry.{Entry}
use Rattle.rows.specs.declared.places.Edition.{Edition}
use Rattle.house.specs.Answers.{path}
use Rattle.house.specs.Houses.{set_of}
use Rattle.house.specs.Questions.{is_open, settle_answer}
use Rattle.house.specs.Rolls.{is_listed}
use Rattle.house.specs.declared.answers.Settlement.{Settlement}
use Rattle.house.specs.declared.faults.HouseFault.{HouseFault}
use Rattle.house.specs.declared.houses.House.{House}
use Rattle.house.specs.declared.series.Series.{Series}
use Rattle.runs.specs.Added.{Among}
use Rattle.runs.specs.PathEntries.{entries_on}
use Rattle.runs.specs.Raised.{EntryRaised, SeriesRaised}
use Rattle.runs.specs.Relations.{Relation}
use Rattle.book.specs.Takings.{with_all_stored}
use Rattle.runs.specs.Told.{Told}
use Rattle.runs.specs.ByCalls.{entries, terms_listed, phase_after, series_after}
use Rattle.calls.specs.Worlds.{World, new_world, world}
use Rattle.runs.specs.Runs.{after_run, calls_taken}
use Rattle.calls.specs.declared.call.Call.{Call}
use Rattle.runs.specs.declared.comparing.Run as run_structs

-- calls made on a house and a book, over so many ladders with these lawful prices
pub record RunMeaning : Type 0 where
  pub ladders : ℕ
  pub lawful : ℕ → ℤ → Bool
  pub start : World
  pub calls : List Call

-- on a house over a ladder set with this count and these lawful prices, and a book of this meaning
abbrev pub run_of : {L : Type 0} {bound : _} → (L → ℕ) → (L → ℕ → ℤ → Bool) → House L bound → Ledger → List Call → RunMeaning
run_of size lawful h m calls =
    let set = set_of h in
    record { ladders = size set; lawful = lawful set; start = world h m; calls = calls }

-- as it is handed to a call
abbrev pub run_in : {L B : Type 0} {bound : _} → (L → ℕ) → (L → ℕ → ℤ → Bool) → (B → Ledger) → run_structs.Run L B bound → RunMeaning
run_in size lawful meaning r = run_of size lawful r.house.now (meaning r.book.now) r.calls.now

-- what stands in the end, and the calls that were not refused
abbrev pub end_world : RunMeaning → World
end_world r = after_run r.ladders r.lawful r.calls r.start

abbrev pub calls_taken_in : RunMeaning → List Call
calls_taken_in r = calls_taken r.ladders r.lawful r.calls r.start

-- of a run from a new house and an empty book of a day: what stands in its end is told by the calls taken
abbrev pub EndTold : Day → ℕ → RunMeaning → Type 0
EndTold d k r = Told d k (calls_taken_in r) (end_world r)

-- what memory that was lent to the book then holds: the entries taken, stored in it one after the other
abbrev pub end_memory : {M : Type 0} → (M → ℕ → Entry → M) → RunMeaning → M → M
end_memory with_stored r memory = with_all_stored with_stored r.start.book.count (entries (calls_taken_in r)) memory

-- what a house answers to a question
abbrev pub Outcome : Type 0
Outcome = Result Settlement HouseFault

-- in the end of a run
abbrev pub answer_in : RunMeaning → ℤ → Edition → Outcome
answer_in r n ed = settle_answer r.lawful ed n (end_world r).state (end_world r).book

-- a new house and an empty book of the day
abbrev pub new_run : {L : Type 0} → (L → ℕ) → (L → ℕ → ℤ → Bool) → L → Day → ℕ → List Call → RunMeaning
new_run size lawful set d k calls = record { ladders = size set; lawful = lawful set; start = new_world d k; calls = calls }

-- ---- which runs can be compared

-- by the calls taken the series is listed and the edition open
pub record MayAskAfter (r : RunMeaning) (n : ℤ) (ed : Edition) : Type 0 where
  pub listed : is_listed (length (terms_listed (calls_taken_in r))) n ≡ true
  pub opened : is_open (phase_after (calls_taken_in r)) ed ≡ true

-- one ladder set, by its meaning, and a question that may be asked in both
pub record Alike (a b : RunMeaning) (n : ℤ) (ed : Edition) : Type 0 where
  pub ladders : a.ladders ≡ b.ladders
  pub prices : (l : ℕ) (v : ℤ) → a.lawful l v ≡ b.lawful l v
  pub first : MayAskAfter a n ed
  pub second : MayAskAfter b n ed

-- and both began with a new house and an empty book of one day, of whatever capacity
pub record Comparable (a b : RunMeaning) (n : ℤ) (ed : Edition) : Type 0 where
  pub alike : Alike a b n ed
  pub day : Day
  pub capacity : ℕ
  pub other_capacity : ℕ
  pub new : a.start ≡ new_world day capacity
  pub other_new : b.start ≡ new_world day other_capacity

-- ---- of two lists of calls taken

-- the path of the series numbered n
abbrev pub path_of : List Call → ℕ → List ℕ
path_of calls n = path (series_after calls) n

-- the same numbers stand on both paths; along the path the series are related, each by its terms and what was last supplied,
-- and so are the entries taken there in order, legs aside
pub record PathRelated (OnSeries : Relation Series) (OnEntries : Relation (List Entry)) (n : ℕ) (xs ys : List Call) : Type 0 where
  pub numbers : path_of xs n ≡ path_of ys n
  pub series : AllByRecursion (λ k. OnSeries (series_after xs k) (series_after ys k)) (path_of xs n)
  pub evidence : OnEntries (entries_on (path_of xs n) (entries xs)) (entries_on (path_of xs n) (entries ys))

-- ---- how the answers of two runs compare

-- both settle, by the same step at the same place and time and the second at no lower price; or both are refused alike
abbrev pub NotLower : {E : Type 0} → Relation (Result Settlement E)
NotLower (Ok s) (Ok t) = (s.step ≡ t.step) × (s.place ≡ t.place) × (s.time ≡ t.time) × (s.price ≤ℤ t.price)
NotLower (Ok s) (Err p) = ⊥
NotLower (Err o) (Ok t) = ⊥
NotLower (Err o) (Err p) = o ≡ p

-- where the first settles, the second settles too, at no later a place of the row
abbrev pub NoLater : {E : Type 0} → Relation (Result Settlement E)
NoLater (Ok s) (Ok t) = t.place ≤ s.place
NoLater (Ok s) (Err p) = ⊥
NoLater (Err o) b = Unit {0}

-- ---- the laws, under a premise on both runs

-- what is related on the path gives related answers
abbrev pub Law : Relation Series → Relation (List Entry) → Relation Outcome → Type 0 → RunMeaning
    → RunMeaning → ℤ → Relation Outcome
Law OnSeries OnEntries OnAnswers Premise a b n x y =
    Premise → PathRelated OnSeries OnEntries (unsigned_abs n) (calls_taken_in a) (calls_taken_in b) → OnAnswers x y

-- the same evidence gives the same answer
abbrev pub SameLaw : Type 0 → RunMeaning → RunMeaning → ℤ → Relation Outcome
SameLaw = Law ◌≡◌ ◌≡◌ ◌≡◌

-- where only prices differ, and none is lower in the second, step, place, time and origin stay, and no price settled is lower
abbrev pub RaisedLaw : Type 0 → RunMeaning → RunMeaning → ℤ → Relation Outcome
RaisedLaw = Law SeriesRaised (AllZip EntryRaised) NotLower

-- where the first entries stand among the second in their order, and the rest there are trades, auctions or spreads, what
-- settled settles, no later in its row; of times it says nothing
abbrev pub MoreLaw : Type 0 → RunMeaning → RunMeaning → ℤ → Relation Outcome
MoreLaw = Law ◌≡◌ Among NoLater

-- all three, and that the answers are those of the runs
pub record Laws (Premise : RunMeaning → RunMeaning → ℤ → Edition → Type 0)
    (a b : RunMeaning) (n : ℤ) (ed : Edition) (x y : Outcome) : Type 0 where
  pub one : x ≡ answer_in a n ed
  pub other : y ≡ answer_in b n ed
  pub same : SameLaw (Premise a b n ed) a b n x y
  pub raised : RaisedLaw (Premise a b n ed) a b n x y
  pub more : MoreLaw (Premise a b n ed) a b n x y
