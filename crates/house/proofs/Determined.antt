-- Of a series, and of a question, there is one answer.
use Rattle.std.proofs.Common.{◌≡◌, ℕ, ◌+◌, ◌<◌, Bool, true, false, ◌&&◌, ◌⊎◌, List, [], ◌∷◌, map, ℤ, nat_abs, Some, None, Ok, Err, Option, Result, refl, sym, ap, ◌∙◌, subst, inl, inr}
use Rattle.std.proofs.lemmas.Bool.{both_ways, cases_order}
use Rattle.std.proofs.lemmas.Option.{none-some, same_Some}
use Rattle.book.specs.Ledgers.{Ledger}
use Rattle.rows.specs.Codes.{at}
use Rattle.rows.specs.declared.places.Edition.{Edition}
use Rattle.rows.specs.declared.places.Place.{Place}
use Rattle.house.specs.Answers.{Answer, origin_of, price_of, row_of, some_refers, station, time_of}
use Rattle.house.specs.ByPath.{MayAsk}
use Rattle.house.specs.Calls.{State}
use Rattle.house.specs.FindsPrice.{PlaceFinds, PlaceHasTime}
use Rattle.house.specs.Found.{Station}
use Rattle.house.specs.Meaning.{AnswerOf, AreReferences, ComesFrom, Explained, OneAnswer, Refused, RuledFirst, Settles, StandsAt, TellsAnswer, is_first, is_refused}
use Rattle.house.specs.Questions.{is_open, or_no_price}
use Rattle.house.specs.Rolls.{is_listed}
use Rattle.house.specs.declared.answers.Settlement.{Settlement}
use Rattle.house.specs.declared.faults.HouseFault.{HouseFault}
use Rattle.house.specs.declared.series.Ruling.{Ruling}
use Rattle.house.specs.declared.series.Series.{Series}
use Rattle.house.proofs.StepFinds.{place_finds_once, place_time_once}

-- ---- settlements

same_settlement : (s t : Settlement) → s.price ≡ t.price → s.step ≡ t.step → s.place ≡ t.place → s.time ≡ t.time → s ≡ t
same_settlement s t price step place time = λ i. record { price = price i; step = step i; place = place i; time = time i }

one_ruled : (o : Option Ruling) (s t : Settlement) → RuledFirst o s → RuledFirst o t → s ≡ t
one_ruled o s t h k =
    let same = same_Some h.ruling k.ruling (sym h.stands ∙ k.stands) in
    same_settlement s t (h.price ∙ ap (λ (r : Ruling). r.value) same ∙ sym k.price) (h.step ∙ sym k.step) (h.place ∙ sym k.place) (h.time ∙ sym k.time)

-- where a ruling with the first mark is the answer, one stands
not_unruled : (o : Option Ruling) (s : Settlement) → RuledFirst o s → is_first o ≡ false → ⊥
not_unruled o s h unruled = both_ways (is_first o) unruled (ap is_first h.stands ∙ h.first)

-- where a place finds no two prices and has no two times, no two settlements stand at the places of a row
one_stands : (Finds : Place → ℤ → Type 0) → ((q : Place) (p r : ℤ) → Finds q p → Finds q r → p ≡ r) → (Has : Place → Option ℤ → Type 0) → ((q : Place) (t u : Option ℤ) → Has q t → Has q u → t ≡ u) → (ps : List Place) (s t : Settlement) → StandsAt Finds Has ps s → StandsAt Finds Has ps t → s ≡ t
one_stands Finds once Has time_once ps s t h k = by (cases_order h.position k.position)
  where
    by : (h.position ≡ k.position) ⊎ ((h.position < k.position) ⊎ (k.position < h.position)) → s ≡ t
    by (inl e) =
        let same = same_Some h.place k.place (sym h.stands ∙ ap (at ps) e ∙ k.stands) in
        same_settlement s t
        (once k.place s.price t.price (subst (λ (q : Place). Finds q s.price) same h.price) k.price)
        (sym h.step ∙ ap (λ (p : Place). p.step) same ∙ k.step)
        (h.counted ∙ ap (λ n. n + 1) e ∙ sym k.counted)
        (time_once k.place s.time t.time (subst (λ (q : Place). Has q s.time) same h.time) k.time)
    by (inr (inl l)) = absurd (k.before h.position h.place s.price l h.stands h.price)
    by (inr (inr l)) = absurd (h.before k.position k.place t.price l k.stands k.price)

-- ---- one series

module _ (P : ℕ → ℤ → Bool) (ed : Edition) (x : Station) (u : Option Answer) where
  abbrev ps : List Place
  ps = row_of x.series ed

  -- a refusal that comes from the reference is not the series' own
  not_own : (o : ℕ) → some_refers ps ≡ true → u ≡ Some (Err o) → (some_refers ps && is_refused u) ≡ false → ⊥
  not_own o uses is own = both_ways (some_refers ps && is_refused u) own (ap (λ b. b && is_refused u) uses ∙ ap is_refused is)

  one_refused : (o p : ℕ) → Refused P ed x u o → Refused P ed x u p → o ≡ p
  one_refused o p h k = by h.from k.from
    where
      by : ComesFrom ps u x.number o → ComesFrom ps u x.number p → o ≡ p
      by (inl f) (inl g) = ap (origin_of x.number) (sym f.1 ∙ g.1)
      by (inl f) (inr g) = absurd (not_own o f.0 f.1 g.0)
      by (inr f) (inl g) = absurd (not_own p g.0 g.1 f.0)
      by (inr f) (inr g) = f.1 ∙ sym g.1

  -- a series that is refused does not settle
  not_both : (s : Settlement) (o : ℕ) → Settles P ed x u (Ok s) → Refused P ed x u o → ⊥
  not_both s o (inl f) k = not_unruled x.series.ruling s f k.unruled
  not_both s o (inr f) k = k.nothing f.1.position f.1.place s.price f.1.stands f.1.price

  one_settled : (s t : Settlement) → Settles P ed x u (Ok s) → Settles P ed x u (Ok t) → s ≡ t
  one_settled s t (inl f) (inl g) = one_ruled x.series.ruling s t f g
  one_settled s t (inl f) (inr g) = absurd (not_unruled x.series.ruling s f g.0)
  one_settled s t (inr f) (inl g) = absurd (not_unruled x.series.ruling t g f.0)
  one_settled s t (inr f) (inr g) = one_stands (PlaceFinds P (price_of u) x) (place_finds_once P (price_of u) x) (PlaceHasTime (time_of u) x) (place_time_once (time_of u) x) ps s t f.1 g.1

  one_settles : (a b : Answer) → Settles P ed x u a → Settles P ed x u b → a ≡ b
  one_settles (Ok s) (Ok t) h k = ap Ok (one_settled s t h k)
  one_settles (Ok s) (Err p) h k = absurd (not_both s p h k)
  one_settles (Err o) (Ok t) h k = absurd (not_both t o k h)
  one_settles (Err o) (Err p) h k = ap Err (one_refused o p h k)

-- ---- along the path

one_along : (P : ℕ → ℤ → Bool) (ed : Edition) (x : Station) (xs : List Station) (a b : Answer) → AnswerOf P ed x xs a → AnswerOf P ed x xs b → a ≡ b
one_along P ed x [] a b h k = one_settles P ed x None a b h k
one_along P ed x (y ∷ ys) a b h k =
    let same = one_along P ed y ys h.0 k.0 h.1 k.1 in
    one_settles P ed x (Some k.0) a b (subst (λ (c : Answer). Settles P ed x (Some c) a) same h.2) k.2

one_references : (all : ℕ → Series) (own : Option ℕ) (ns ms : List ℕ) → AreReferences all own ns → AreReferences all own ms → ns ≡ ms
one_references all own [] [] h k = refl
one_references all own [] (m ∷ ms) h k = absurd (none-some m (sym h ∙ k.0))
one_references all own (n ∷ ns) [] h k = absurd (none-some n (sym k ∙ h.0))
one_references all own (n ∷ ns) (m ∷ ms) h k =
    let same = same_Some n m (sym h.0 ∙ k.0) in
    let rest = one_references all (all m).terms.reference ns ms (subst (λ (r : ℕ). AreReferences all (all r).terms.reference ns) same h.1) k.1 in
    λ i. same i ∷ rest i

-- ---- the house

one_told : (P : ℕ → ℤ → Bool) (ed : Edition) (s : State) (m : Ledger) (n : ℕ) (r q : Result Settlement HouseFault) → TellsAnswer P ed s m n r → TellsAnswer P ed s m n q → r ≡ q
one_told P ed s m n r q h k =
    let same = one_references s.roll.series (s.roll.series n).terms.reference h.numbers k.numbers h.references k.references in
    let there = subst (λ (ns : List ℕ). AnswerOf P ed (station s m n) (map (station s m) ns) h.answer) same h.stands in
    h.told ∙ ap or_no_price (one_along P ed (station s m n) (map (station s m) k.numbers) h.answer k.answer there k.stands) ∙ sym k.told

one_explained : (P : ℕ → ℤ → Bool) (ed : Edition) (s : State) (m : Ledger) (n : ℤ) (r q : Result Settlement HouseFault) → Explained P ed s m n r → Explained P ed s m n q → r ≡ q
one_explained P ed s m n r q h k = by (is_open s.phase ed) (is_listed s.roll.count n) refl refl
  where
    by : (opened listed : Bool) → is_open s.phase ed ≡ opened → is_listed s.roll.count n ≡ listed → r ≡ q
    by false listed o l = h.not_open o ∙ sym (k.not_open o)
    by true false o l = h.not_listed o l ∙ sym (k.not_listed o l)
    by true true o l =
        let may : MayAsk ed n s = record { opened = o; listed = l } in
        one_told P ed s m (nat_abs n) r q (h.asked may) (k.asked may)

pub one_answer : OneAnswer
one_answer = record { answer = one_along; result = one_explained }
