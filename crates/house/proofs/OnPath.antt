-- An answer rests on the stations of the path alone.
use Rattle.std.proofs.Common.{◌≡◌, ℕ, zero, suc, Bool, List, [], ◌∷◌, map, ℤ, nat_abs, Err, Some, None, Option, Result, sym, refl, ap, ◌∙◌}
use Rattle.std.specs.List.{AllByRecursion}
use Rattle.std.proofs.lemmas.Bool.{cond-true}
use Rattle.book.specs.Ledgers.{Ledger}
use Rattle.rows.specs.declared.places.Edition.{Edition}
use Rattle.house.specs.Answers.{behind, references, path_answer, answer_at, station}
use Rattle.house.specs.ByPath.{ByPath, MayAsk, SamePath, SameStation}
use Rattle.house.specs.Calls.{State, demand}
use Rattle.house.specs.Found.{Station}
use Rattle.house.specs.Questions.{or_no_price, is_open, settle_answer}
use Rattle.house.specs.Rolls.{is_listed}
use Rattle.house.specs.declared.answers.Settlement.{Settlement}
use Rattle.house.specs.declared.faults.HouseFault.{HouseFault}
use Rattle.house.specs.declared.faults.HouseFault.TheVariants.{NoSuchSeries, WrongPhase}
use Rattle.house.specs.declared.series.Series.{Series}

equal_stations : (x y : Station) → SameStation x y → x ≡ y
equal_stations x y h = λ i. record { number = h.number i; series = h.series i; figures = λ w. h.figures w i }

module _ (s t : State) (m k : Ledger) where
  abbrev Same : ℕ → Type 0
  Same r = SameStation (station s m r) (station t k r)

  equal_along : (ns : List ℕ) → AllByRecursion Same ns → map (station s m) ns ≡ map (station t k) ns
  equal_along [] h = refl
  equal_along (n ∷ ns) h = λ i. equal_stations (station s m n) (station t k n) h.0 i ∷ equal_along ns h.1 i

  -- the same series have the same references behind them
  same_behind : (j : ℕ) (o : Option ℕ) → AllByRecursion Same (behind j s.roll.series o) → behind j s.roll.series o ≡ behind j t.roll.series o
  same_behind zero None h = refl
  same_behind zero (Some r) h = refl
  same_behind (suc j) None h = refl
  same_behind (suc j) (Some r) h =
      ap (λ rs. r ∷ rs)
      (same_behind j (s.roll.series r).terms.reference h.1 ∙ ap (λ (x : Series). behind j t.roll.series x.terms.reference) h.0.series)

  same_settled : (P : ℕ → ℤ → Bool) (ed : Edition) (n : ℕ) → SamePath n s m t k → answer_at P ed s m n ≡ answer_at P ed t k n
  same_settled P ed n h =
      let rest = same_behind n (s.roll.series n).terms.reference h.1 ∙ ap (λ (x : Series). behind n t.roll.series x.terms.reference) h.0.series in
      let stations = equal_along (references s.roll.series n) h.1 ∙ ap (map (station t k)) rest in
      λ i. path_answer P ed (equal_stations (station s m n) (station t k n) h.0 i) (stations i)

-- a question that may be asked has the answer of the series
pub may_ask_answer : (P : ℕ → ℤ → Bool) (ed : Edition) (s : State) (m : Ledger) (n : ℤ) → MayAsk ed n s → settle_answer P ed n s m ≡ or_no_price (answer_at P ed s m (nat_abs n))
may_ask_answer P ed s m n may =
    let answer = or_no_price (answer_at P ed s m (nat_abs n)) in
    cond-true (is_open s.phase ed) (demand (is_listed s.roll.count n) NoSuchSeries answer) (Err WrongPhase) may.opened
    ∙ cond-true (is_listed s.roll.count n) answer (Err NoSuchSeries) may.listed

pub answered_by_path : (P : ℕ → ℤ → Bool) (ed : Edition) (s : State) (m : Ledger) (n : ℤ) (r : Result Settlement HouseFault) → r ≡ settle_answer P ed n s m → ByPath P ed s m n r
answered_by_path P ed s m n r is t k here there same =
    is
    ∙ may_ask_answer P ed s m n here
    ∙ ap or_no_price (same_settled s t m k P ed (nat_abs n) same)
    ∙ sym (may_ask_answer P ed t k n there)
