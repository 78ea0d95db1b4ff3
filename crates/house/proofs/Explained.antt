-- Every answer means what `Meaning` says.
use Rattle.std.proofs.Common.{◌≡◌, ℕ, zero, suc, ◌+◌, ◌<◌, Bool, true, false, ◌&&◌, List, [], ◌∷◌, map, ℤ, nat_abs, Some, None, Ok, Err, Option, Result, refl, ap, ◌∙◌, subst, inl, inr, arith}
use Rattle.std.proofs.lemmas.Bool.{and_left, and_right, cond-false, cond-true, cond_both}
use Rattle.book.specs.Ledgers.{Ledger}
use Rattle.ladders.specs.Rounding.{Near}
use Rattle.rows.specs.Codes.{at}
use Rattle.rows.specs.declared.places.Edition.{Edition}
use Rattle.rows.specs.declared.places.Place.{Place}
use Rattle.rows.specs.declared.steps.Step as steps
use Rattle.house.specs.Answers.{Answer, answered, answer_at, behind, by_row, first_found, or_later, or_refused, origin, origin_of, price_of, references, row_of, ruled_first, path_answer, some_refers, station, time_of}
use Rattle.house.specs.Calls.{State, demand}
use Rattle.house.specs.FindsPrice.{PlaceFinds, PlaceHasTime}
use Rattle.house.specs.Found.{Station, found}
use Rattle.house.specs.Meaning.{AnswerOf, AreReferences, Explained, Refused, Settles, StandsAt, is_first, is_refused}
use Rattle.house.specs.Questions.{is_open, or_no_price, settle_answer}
use Rattle.house.specs.Rolls.{is_listed}
use Rattle.house.specs.Series.{lawful_series}
use Rattle.house.specs.declared.answers.Settlement.{Settlement}
use Rattle.house.specs.declared.answers.TimedPrice.{TimedPrice}
use Rattle.house.specs.declared.faults.HouseFault.{HouseFault}
use Rattle.house.specs.declared.faults.HouseFault.TheVariants.{NoSuchSeries, WrongPhase}
use Rattle.house.specs.declared.series.Ruling.{Ruling}
use Rattle.house.specs.declared.series.Series.{Series}
use Rattle.house.proofs.OnPath.{may_ask_answer}
use Rattle.house.proofs.Paths.{earlier}
use Rattle.house.proofs.StepFinds.{found_is, none_found}

-- ---- the first place that finds

-- as `StandsAt` of what a place computes, with places counted from k
record StandsFrom (find : Place → Option TimedPrice) (k : ℕ) (ps : List Place) (s : Settlement) : Type 0 where
  position : ℕ
  place : Place
  stands : at ps position ≡ Some place
  counted : s.place ≡ position + k
  step : place.step ≡ s.step
  result : find place ≡ Some (record { price = s.price; time = s.time })
  before : (j : ℕ) (q : Place) → j < position → at ps j ≡ Some q → find q ≡ None

-- a settlement stands at a place, or no place finds
abbrev FoundFrom : (Place → Option TimedPrice) → ℕ → List Place → Option Settlement → Type 0
FoundFrom find k ps None = (j : ℕ) (q : Place) → at ps j ≡ Some q → find q ≡ None
FoundFrom find k ps (Some s) = StandsFrom find k ps s

-- after a place that finds nothing
module _ (find : Place → Option TimedPrice) (k : ℕ) (p : Place) (ps : List Place) (none : find p ≡ None) where
  later_finds_not : FoundFrom find (k + 1) ps None → FoundFrom find k (p ∷ ps) None
  later_finds_not h zero q e = let same : p ≡ q = cc in subst (λ (r : Place). find r ≡ None) same none
  later_finds_not h (suc j) q e = h j q e

  later_stands : (s : Settlement) → StandsFrom find (k + 1) ps s → StandsFrom find k (p ∷ ps) s
  later_stands s h = record {
    position = suc h.position;
    place = h.place;
    stands = h.stands;
    counted = let c = h.counted in omega arith;
    step = h.step;
    result = h.result;
    before = before;
  }
    where
      before : (j : ℕ) (q : Place) → j < suc h.position → at (p ∷ ps) j ≡ Some q → find q ≡ None
      before zero q l e = let same : p ≡ q = cc in subst (λ (r : Place). find r ≡ None) same none
      before (suc j) q l e = h.before j q (omega arith) e

first_explained : (find : Place → Option TimedPrice) (k : ℕ) (ps : List Place) → FoundFrom find k ps (first_found find k ps)
first_explained find k [] = λ j q e. grind arith
first_explained find k (p ∷ ps) = by (find p) (first_found find (k + 1) ps) refl (first_explained find (k + 1) ps)
  where
    by : (v : Option TimedPrice) (later : Option Settlement) → find p ≡ v → FoundFrom find (k + 1) ps later → FoundFrom find k (p ∷ ps) (or_later v p.step k later)
    by None None is h = later_finds_not find k p ps is h
    by None (Some s) is h = later_stands find k p ps is s h
    by (Some v) later is h = record {
      position = 0;
      place = p;
      stands = refl;
      counted = omega arith;
      step = refl;
      result = is;
      before = λ j q l e. absurd (omega arith);
    }

-- ---- one series

module _ (P : ℕ → ℤ → Bool) (near : (n : ℕ) (z : ℤ) → Near (P n) z) (ed : Edition) (x : Station) (u : Option Answer) where
  abbrev find : Place → Option TimedPrice
  find p = found P (price_of u) (time_of u) x p

  abbrev ps : List Place
  ps = row_of x.series ed

  none_finds : FoundFrom find 1 ps None → (k : ℕ) (q : Place) (p : ℤ) → at ps k ≡ Some q → PlaceFinds P (price_of u) x q p → ⊥
  none_finds none k q p e = none_found P near (price_of u) (time_of u) x q p (none k q e)

  stands_at : (s : Settlement) → FoundFrom find 1 ps (Some s) → StandsAt (PlaceFinds P (price_of u) x) (PlaceHasTime (time_of u) x) ps s
  stands_at s h = record {
    position = h.position;
    place = h.place;
    stands = h.stands;
    counted = h.counted;
    step = h.step;
    price = is.0;
    time = is.1;
    before = λ k q p l e. none_found P near (price_of u) (time_of u) x q p (h.before k q l e);
  }
    where
      is : PlaceFinds P (price_of u) x h.place s.price × PlaceHasTime (time_of u) x h.place s.time
      is = found_is P near (price_of u) (time_of u) x h.place (record { price = s.price; time = s.time }) h.result

  refusal : is_first x.series.ruling ≡ false → FoundFrom find 1 ps None → Refused P ed x u (origin ed x u)
  refusal unruled none =
      cond_both (some_refers ps) (origin_of x.number u) x.number (Refused P ed x u)
      (λ uses. by uses u refl)
      (λ alone. own (and_left (some_refers ps) (is_refused u) alone))
    where
      own : (some_refers ps && is_refused u) ≡ false → Refused P ed x u x.number
      own is = record { unruled = unruled; nothing = none_finds none; from = inr (is, refl) }

      settles : is_refused u ≡ false → Refused P ed x u x.number
      settles is = own (and_right (some_refers ps) (is_refused u) is)

      by : some_refers ps ≡ true → (v : Option Answer) → u ≡ v → Refused P ed x u (origin_of x.number v)
      by uses None is = settles (ap is_refused is)
      by uses (Some (Ok s)) is = settles (ap is_refused is)
      by uses (Some (Err o)) is = record { unruled = unruled; nothing = none_finds none; from = inl (uses, is) }

  by_row_explained : is_first x.series.ruling ≡ false → Settles P ed x u (by_row P ed x u)
  by_row_explained unruled = by (first_found find 1 ps) (first_explained find 1 ps)
    where
      by : (o : Option Settlement) → FoundFrom find 1 ps o → Settles P ed x u (or_refused o (origin ed x u))
      by None none = refusal unruled none
      by (Some s) h = inr (unruled, stands_at s h)

  pub answered_explained : Settles P ed x u (answered P ed x u)
  answered_explained = by x.series.ruling refl
    where
      by : (o : Option Ruling) → x.series.ruling ≡ o → Settles P ed x u (ruled_first o (by_row P ed x u))
      by None is = by_row_explained (ap is_first is)
      by (Some r) is =
          cond_both r.first (Ok (record { price = r.value; step = steps.TheVariants.Ruling; place = 0; time = None })) (by_row P ed x u) (Settles P ed x u)
          (λ first. inl (record { ruling = r; stands = is; first = first; price = refl; step = refl; place = refl; time = refl }))
          (λ after. by_row_explained (ap is_first is ∙ after))

-- ---- along the path

path_explained : (P : ℕ → ℤ → Bool) → ((n : ℕ) (z : ℤ) → Near (P n) z) → (ed : Edition) (x : Station) (xs : List Station) → AnswerOf P ed x xs (path_answer P ed x xs)
path_explained P near ed x [] = answered_explained P near ed x None
path_explained P near ed x (y ∷ ys) = (path_answer P ed y ys, path_explained P near ed y ys, answered_explained P near ed x (Some (path_answer P ed y ys)))

-- so many steps as the first number end at a series that has no reference, since each reference is earlier
pub behind_explained : (all : ℕ → Series) → ((n : ℕ) → lawful_series n (all n) ≡ true) → (k : ℕ) (o : Option ℕ) → ((r : ℕ) → o ≡ Some r → r < k) → AreReferences all o (behind k all o)
behind_explained all lawful k None under = refl
behind_explained all lawful zero (Some r) under = let h = under r refl in absurd (omega arith)
behind_explained all lawful (suc k) (Some r) under =
    let h = under r refl in
    (refl, behind_explained all lawful k (all r).terms.reference (λ q is. let l = earlier r (all r) q (lawful r) is in omega arith))

-- ---- what the house tells

pub answer_explained : (P : ℕ → ℤ → Bool) → ((n : ℕ) (z : ℤ) → Near (P n) z) → (ed : Edition) (s : State) (m : Ledger) → ((k : ℕ) → lawful_series k (s.roll.series k) ≡ true) → (n : ℤ) (r : Result Settlement HouseFault) → r ≡ settle_answer P ed n s m → Explained P ed s m n r
answer_explained P near ed s m lawful n r is =
    let k = nat_abs n in
    let answer = or_no_price (answer_at P ed s m k) in
    let listed = demand (is_listed s.roll.count n) NoSuchSeries answer in
    record {
      not_open = λ closed. is ∙ cond-false (is_open s.phase ed) listed (Err WrongPhase) closed;
      not_listed = λ opened unknown. is ∙ cond-true (is_open s.phase ed) listed (Err WrongPhase) opened ∙ cond-false (is_listed s.roll.count n) answer (Err NoSuchSeries) unknown;
      asked = λ may. record {
        numbers = references s.roll.series k;
        references = behind_explained s.roll.series lawful k (s.roll.series k).terms.reference (λ q so. earlier k (s.roll.series k) q (lawful k) so);
        answer = answer_at P ed s m k;
        stands = path_explained P near ed (station s m k) (map (station s m) (references s.roll.series k));
        told = is ∙ may_ask_answer P ed s m n may;
      };
    }
