-- Two runs compared, by the calls taken in each.
use Rattle.std.proofs.Common.{◌≡◌, ℕ, ◌+◌, Bool, true, ◌||◌, List, [], ◌∷◌, map, length, ℤ, pos, nat_abs, Ok, Err, sym, refl, ap, ◌∙◌, subst}
use Rattle.std.proofs.Math.Path.{subst₂}
use Rattle.std.specs.List.{AllZip, AllByRecursion}
use Rattle.std.proofs.lemmas.Bool.{eq-eqb, or_right}
use Rattle.std.proofs.lemmas.List.Elements.{same_from_all_zip}
use Rattle.book.specs.Entries.{allowed}
use Rattle.book.specs.Figures.{empty, is_series}
use Rattle.book.specs.Ledgers.{Ledger, fresh}
use Rattle.book.specs.Records.{every, figures_of}
use Rattle.book.specs.Windows.{edges}
use Rattle.book.specs.declared.days.Day.{Day}
use Rattle.book.specs.declared.entries.Entry.{Entry}
use Rattle.book.specs.LawfulRecords.{bounded_from}
use Rattle.book.specs.Growth.{bounded_empty}
use Rattle.book.specs.Ranges.{allowed_kind}
use Rattle.ladders.specs.Rounding.{Near}
use Rattle.rows.specs.declared.places.Edition.{Edition}
use Rattle.house.specs.Answers.{Answer, answer_at, path_answer, references, station_of}
use Rattle.house.specs.Calls.{new_state}
use Rattle.house.specs.Found.{Station}
use Rattle.house.specs.Houses.{set_of, state}
use Rattle.house.specs.Questions.{is_open, or_no_price}
use Rattle.house.specs.Rolls.{is_listed}
use Rattle.house.specs.Series.{lawful_series}
use Rattle.house.specs.declared.faults.HouseFault.TheVariants.{NoPrice}
use Rattle.house.specs.declared.houses.House.{House}
use Rattle.house.specs.declared.series.Series.{Series}
use Rattle.house.proofs.OnPath.{may_ask_answer}
use Rattle.calls.specs.Worlds.{World, new_world}
use Rattle.calls.specs.declared.call.Call.{Call}
use Rattle.runs.specs.Added.{Among}
use Rattle.runs.specs.PathEntries.{entries_on, on_path}
use Rattle.runs.specs.Laws.{Alike, Comparable, EndTold, Law, Laws, MayAskAfter, NoLater, NotLower, Outcome, RunMeaning, answer_in, calls_taken_in, end_world, new_run, path_of, run_of}
use Rattle.runs.specs.Raised.{EntryRaised, SeriesRaised}
use Rattle.runs.specs.Relations.{Relation}
use Rattle.runs.specs.ByCalls.{entries, series_after}
use Rattle.runs.specs.Told.{Told}
use Rattle.runs.proofs.AddedFigures.{more_figures}
use Rattle.runs.proofs.Along.{StationLawful}
use Rattle.runs.proofs.PathFigures.{same_figures}
use Rattle.runs.proofs.MoreAnswers.{StationMore, more_answers}
use Rattle.runs.proofs.RaisedAnswers.{StationRaised, raised_answers}
use Rattle.runs.proofs.RaisedFigures.{raised_figures}
use Rattle.runs.proofs.ToldRuns.{told_from_new}

-- ---- stations by the calls taken

-- the station of a series on a day
abbrev station_by_calls : Day → List Call → ℕ → Station
station_by_calls d xs n = record { number = n; series = series_after xs n; figures = figures_of d (entries xs) n }

abbrev answer_by_calls : (ℕ → ℤ → Bool) → Edition → Day → List Call → ℕ → Answer
answer_by_calls P ed d xs n = path_answer P ed (station_by_calls d xs n) (map (station_by_calls d xs) (references (series_after xs) n))

module _ (d : Day) (k : ℕ) (xs : List Call) (w : World) (told : Told d k xs w) where
  -- what the house would answer
  answer_is_by_calls : (P : ℕ → ℤ → Bool) (ed : Edition) (n : ℕ) → answer_at P ed w.state w.book n ≡ answer_by_calls P ed d xs n
  answer_is_by_calls P ed n = λ i.
      path_answer P ed (station_of n (told.roll.series n i) (told.book.records i))
      (map (λ r. station_of r (told.roll.series r i) (told.book.records i)) (references (λ r. told.roll.series r i) n))

  station_lawful : (n : ℕ) → StationLawful (station_by_calls d xs n)
  station_lawful n = record {
    series = ap (lawful_series n) (sym (told.roll.series n)) ∙ told.roll.lawful n;
    figures = λ v. (0 + length (entries xs), bounded_from (allowed d) (allowed_kind d) 0 n (edges d v) empty (entries xs) told.book.lawful (bounded_empty 0));
  }

  all_lawful : (ns : List ℕ) → AllByRecursion StationLawful (map (station_by_calls d xs) ns)
  all_lawful [] = tt
  all_lawful (n ∷ ns) = (station_lawful n, all_lawful ns)

-- the end of a run that began so is told
pub end_told : (d : Day) (k : ℕ) (r : RunMeaning) → r.start ≡ new_world d k → EndTold d k r
end_told d k r new = told_from_new d k r.ladders r.lawful r.calls r.start (end_world r) refl new

-- ---- along one path

-- each number of a path is on it
each_on_path : (before ns : List ℕ) → ((k : ℕ) → on_path ns (pos k) ≡ true → on_path before (pos k) ≡ true)
    → AllByRecursion (λ k. on_path before (pos k) ≡ true) ns
each_on_path before [] inside = tt
each_on_path before (n ∷ ns) inside =
    let here : on_path (n ∷ ns) (pos n) ≡ true = ap (λ b. b || on_path ns (pos n)) (eq-eqb n n refl) in
    (inside n here, each_on_path before ns (λ k h. inside k (or_right (is_series n (pos k)) (on_path ns (pos k)) h)))

-- what holds of each number of a path pairs the stations of two lists of calls
pairs : (A : ℕ → Type 0) (R : Relation Station) (f g : ℕ → Station) (path ns : List ℕ)
    → ((k : ℕ) → A k → on_path path (pos k) ≡ true → R (f k) (g k)) → AllByRecursion A ns
    → AllByRecursion (λ k. on_path path (pos k) ≡ true) ns → AllZip R (map f ns) (map g ns)
pairs A R f g path [] each a on = tt
pairs A R f g path (n ∷ ns) each a on = (each n a.0 on.0, pairs A R f g path ns each a.1 on.1)

-- ---- answers to a question that may be asked

-- what the house answers to it is told by the calls taken
asked_answer : (d : Day) (k : ℕ) (r : RunMeaning) (n : ℤ) (ed : Edition) → Told d k (calls_taken_in r) (end_world r)
    → MayAskAfter r n ed → answer_in r n ed ≡ or_no_price (answer_by_calls r.lawful ed d (calls_taken_in r) (nat_abs n))
asked_answer d k r n ed told may =
    let opened = ap (λ p. is_open p ed) told.phase ∙ may.opened in
    let listed = ap (λ c. is_listed c n) told.roll.count ∙ may.listed in
    may_ask_answer r.lawful ed (end_world r).state (end_world r).book n (record { opened = opened; listed = listed })
    ∙ ap or_no_price (answer_is_by_calls d k (calls_taken_in r) (end_world r) told r.lawful ed (nat_abs n))

not_lower_asked : (x y : Answer) → NotLower x y → NotLower (or_no_price x) (or_no_price y)
not_lower_asked (Ok s) (Ok t) h = h
not_lower_asked (Ok s) (Err p) h = absurd h
not_lower_asked (Err o) (Ok t) h = absurd h
not_lower_asked (Err o) (Err p) h = ap NoPrice h

no_later_asked : (x y : Answer) → NoLater x y → NoLater (or_no_price x) (or_no_price y)
no_later_asked (Ok s) (Ok t) h = h
no_later_asked (Ok s) (Err p) h = absurd h
no_later_asked (Err o) y h = tt

-- ---- one law over any relations

-- from related series and related entries on a path to related stations
abbrev RelatesStations : Relation Series → Relation (List Entry) → Relation Station → Type 0
RelatesStations OnSeries OnEntries OnStations =
    (d : Day) (path : List ℕ) (xs ys : List Call) (k : ℕ)
    → every (allowed d) (entries xs) ≡ true → every (allowed d) (entries ys) ≡ true
    → OnEntries (entries_on path (entries xs)) (entries_on path (entries ys)) → on_path path (pos k) ≡ true
    → OnSeries (series_after xs k) (series_after ys k) → OnStations (station_by_calls d xs k) (station_by_calls d ys k)

-- from related stations along two paths to related answers
abbrev RelatesAnswers : (ℕ → ℤ → Bool) → Edition → Relation Station → Relation Answer → Type 0
RelatesAnswers P ed OnStations OnAnswers =
    (x y : Station) (xs ys : List Station)
    → AllByRecursion StationLawful (x ∷ xs) → AllByRecursion StationLawful (y ∷ ys) → AllZip OnStations (x ∷ xs) (y ∷ ys)
    → OnAnswers (path_answer P ed x xs) (path_answer P ed y ys)

module _ (a b : RunMeaning) (n : ℤ) (ed : Edition) where
  abbrev KeepsLaw : Relation Series → Relation (List Entry) → Relation Outcome → Type 0
  KeepsLaw OnSeries OnEntries OnOutcomes =
      Law OnSeries OnEntries OnOutcomes (Comparable a b n ed) a b n (answer_in a n ed) (answer_in b n ed)

  law : (OnSeries : Relation Series) (OnEntries : Relation (List Entry)) (OnStations : Relation Station)
      → (OnAnswers : Relation Answer) (OnOutcomes : Relation Outcome)
      → RelatesStations OnSeries OnEntries OnStations
      → RelatesAnswers a.lawful ed OnStations OnAnswers
      → ((x y : Answer) → OnAnswers x y → OnOutcomes (or_no_price x) (or_no_price y))
      → KeepsLaw OnSeries OnEntries OnOutcomes
  law OnSeries OnEntries OnStations OnAnswers OnOutcomes stations answers outcomes c e =
      let d = c.day in
      let k = nat_abs n in
      let xs = calls_taken_in a in
      let ys = calls_taken_in b in
      let f = station_by_calls d xs in
      let g = station_by_calls d ys in
      let path = path_of xs k in
      let one = end_told d c.capacity a c.new in
      let other = end_told d c.other_capacity b c.other_new in
      let paired = pairs (λ q. OnSeries (series_after xs q) (series_after ys q)) OnStations f g path path
      (λ q s on. stations d path xs ys q one.book.lawful other.book.lawful e.evidence on s)
      e.series (each_on_path path path (λ q h. h)) in
      let along = answers (f k) (g k) (map f (references (series_after xs) k)) (map g (references (series_after ys) k))
      (all_lawful d c.capacity xs (end_world a) one path)
      (all_lawful d c.other_capacity ys (end_world b) other (path_of ys k))
      (subst (λ (ns : List ℕ). AllZip OnStations (map f path) (map g ns)) e.numbers paired) in
      let prices : a.lawful ≡ b.lawful = λ i l v. c.alike.prices l v i in
      subst₂ OnOutcomes (sym (asked_answer d c.capacity a n ed one c.alike.first))
      (ap (λ P. or_no_price (answer_by_calls P ed d ys k)) prices
      ∙ sym (asked_answer d c.other_capacity b n ed other c.alike.second))
      (outcomes _ _ along)

  same_law : KeepsLaw ◌≡◌ ◌≡◌ ◌≡◌
  same_law = law ◌≡◌ ◌≡◌ ◌≡◌ ◌≡◌ ◌≡◌
      (λ d path xs ys k h j es on s. λ i. record {
        number = k;
        series = s i;
        figures = λ v. same_figures d path (entries xs) (entries ys) k v es on i;
      })
      (λ x y xs ys l m ps.
      let behind = same_from_all_zip ◌≡◌ xs ys ps.1 (λ x y same. sym same) in
      λ i. path_answer a.lawful ed (ps.0 i) (sym behind i))
      (λ x y. ap or_no_price)

  raised_law : ((l : ℕ) (z : ℤ) → Near (a.lawful l) z) → KeepsLaw SeriesRaised (AllZip EntryRaised) NotLower
  raised_law near = law SeriesRaised (AllZip EntryRaised) StationRaised NotLower NotLower
      (λ d path xs ys k h j es on s. record {
        number = refl;
        series = s;
        figures = λ v. raised_figures d path (entries xs) (entries ys) k v h es on;
      })
      (raised_answers a.lawful near ed)
      not_lower_asked

  more_law : KeepsLaw ◌≡◌ Among NoLater
  more_law = law ◌≡◌ Among StationMore NoLater NoLater
      (λ d path xs ys k h j es on s. record {
        number = refl;
        series = s;
        figures = λ v. more_figures d path (entries xs) (entries ys) k v j es on;
      })
      (more_answers a.lawful ed)
      no_later_asked

  -- the answers of two runs keep all three laws
  pub laws : ((l : ℕ) (z : ℤ) → Near (a.lawful l) z) → Laws Comparable a b n ed (answer_in a n ed) (answer_in b n ed)
  laws near = record { one = refl; other = refl; same = same_law; raised = raised_law near; more = more_law }

-- ---- runs that begin anew

-- a run on a house and a book that were just made is a new run
pub begun : {L : Type 0} {bound : _} (size : L → ℕ) (lawful : L → ℕ → ℤ → Bool) (h : House L bound) (m : Ledger) (set : L) (d : Day) (k : ℕ) (calls : List Call)
    → state h ≡ new_state → set_of h ≡ set → m ≡ fresh d k → run_of size lawful h m calls ≡ new_run size lawful set d k calls
begun size lawful h m set d k calls new same empty_book = λ i. record {
  ladders = size (same i);
  lawful = lawful (same i);
  start = record { state = new i; book = empty_book i };
  calls = calls;
}

-- of two runs that began so nothing is asked of the beginning
laws_of_new : (a b : RunMeaning) (n : ℤ) (ed : Edition) (x y : Outcome) (d : Day) (j k : ℕ)
    → a.start ≡ new_world d j → b.start ≡ new_world d k → Laws Comparable a b n ed x y → Laws Alike a b n ed x y
laws_of_new a b n ed x y d j k new other_new l = record {
  one = l.one;
  other = l.other;
  same = λ alike. l.same (comparable alike);
  raised = λ alike. l.raised (comparable alike);
  more = λ alike. l.more (comparable alike);
}
  where
    comparable : Alike a b n ed → Comparable a b n ed
    comparable alike = record { alike = alike; day = d; capacity = j; other_capacity = k; new = new; other_new = other_new }

pub laws_begun : (a b c e : RunMeaning) (n m : ℤ) (ed : Edition) (x y : Outcome) (d : Day) (j k : ℕ) → a ≡ c
    → b ≡ e → n ≡ m → c.start ≡ new_world d j → e.start ≡ new_world d k → Laws Comparable a b n ed x y → Laws Alike c e m ed x y
laws_begun a b c e n m ed x y d j k first second number new other_new l =
    laws_of_new c e m ed x y d j k new other_new
    (subst (λ (z : ℤ). Laws Comparable c e z ed x y) number
    (subst₂ (λ (p r : RunMeaning). Laws Comparable p r n ed x y) first second l))
