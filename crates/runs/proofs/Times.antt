-- The time of an answer is told by the entries taken.
use Rattle.std.proofs.Common.{◌≡◌, ℕ, ◌<◌, Bool, true, false, List, [], ◌∷◌, filter, ℤ, pos, ◌-ℤ◌, nat_abs, is_some, Some, None, Ok, Err, Option, refl, sym, ap, ◌∙◌, subst, inl, inr, arith}
use lib.Signed.{lt_z}
use Rattle.std.proofs.Math.Path.{subst₂}
use Rattle.std.specs.List.{AllByRecursion}
use Rattle.std.specs.Result.{IfOk}
use Rattle.std.proofs.lemmas.Int.{ints}
use Rattle.std.proofs.lemmas.Bool.{cond-false, cond-true}
use Rattle.std.proofs.lemmas.Option.{none-some, same_Some}
use Rattle.book.specs.Evidence.{Evidence, LastOf, StandsLast, auction_price, lots_of, pick, quote_sides, spread_value, total, trade_price, trades}
use Rattle.book.specs.Ledgers.{Ledger}
use Rattle.book.specs.Windows.{edges}
use Rattle.book.specs.declared.days.Day.{Day}
use Rattle.book.specs.declared.entries.Entry.{Entry}
use Rattle.book.specs.declared.entries.Kind.{Kind}
use Rattle.book.specs.declared.figures.Figures.{Figures}
use Rattle.book.specs.declared.figures.Last.{Last}
use Rattle.book.specs.declared.figures.Sides.{Sides}
use Rattle.ladders.specs.Rounding.{Near}
use Rattle.ladders.proofs.Nearest.{inside_range}
use Rattle.rows.specs.Codes.{window_number}
use Rattle.rows.specs.declared.places.Edition.{Edition}
use Rattle.rows.specs.declared.steps.Step.{Step}
use Rattle.rows.specs.declared.steps.Step.TheVariants.{Auction, Trade, Quote, Average, Theory, TheoryUp, Spread, PreviousSpread, Copy, Previous, Ruling}
use Rattle.house.specs.Answers.{Answer, answer_at, price_of, references, row_of, station, station_of, time_of}
use Rattle.house.specs.ByPath.{MayAsk}
use Rattle.house.specs.Calls.{State, demand}
use Rattle.house.specs.FindsPrice.{FindsPrice, HasTime, IsStampOf}
use Rattle.house.specs.Found.{last_value}
use Rattle.house.specs.Meaning.{AreReferences, Settles}
use Rattle.house.specs.Questions.{is_open, or_no_price}
use Rattle.house.specs.Rolls.{is_listed}
use Rattle.house.specs.declared.answers.Settlement.{Settlement}
use Rattle.house.specs.declared.faults.HouseFault.TheVariants.{NoSuchSeries, WrongPhase}
use Rattle.house.specs.declared.series.Series.{Series}
use Rattle.house.proofs.Admitted.{kept_number}
use Rattle.house.proofs.Explained.{answered_explained, behind_explained}
use Rattle.house.proofs.OnPath.{may_ask_answer}
use Rattle.house.proofs.Paths.{earlier, of_reference, settled_with}
use Rattle.calls.specs.Worlds.{new_world}
use Rattle.runs.specs.ByCalls.{entries, series_after}
use Rattle.runs.specs.Laws.{Outcome, RunMeaning, answer_in, calls_taken_in, end_world}
use Rattle.runs.specs.Times.{AnswerTimed, TimeByStep, TimeOfOne, TimeTold, TimeOfEntry}
use Rattle.runs.specs.Told.{Told}
use Rattle.runs.proofs.Compared.{end_told}

-- ---- one figure

-- where a last figure has this value, its stamp is that of the entry that stands last
time_of_entry : {V : Type 0} (has : Kind → Option V) (n : ℕ) (window : ℤ × ℤ) (es : List Entry) (o : Option (Last V)) (time : Option ℤ) (v : V)
    → last_value o ≡ Some v → IsStampOf o time → LastOf (pick has n window) es o → TimeOfEntry has n window es time v
time_of_entry has n window es None time v h t last = absurd (none-some v h)
time_of_entry {V} has n window es (Some l) time v h t last =
    let value = same_Some l.value v h in
    (l.stamp, t, subst (λ (w : V). StandsLast (pick has n window) es (record { stamp = l.stamp; value = w })) value last)

-- where nothing was taken for a figure, no entry is among those that have something for it
none_among : {V : Type 0} (picked : Entry → Option V) (es : List Entry) → AllByRecursion (λ e. picked e ≡ None) es
    → filter (λ e. is_some (picked e)) es ≡ []
none_among picked [] h = refl
none_among picked (e ∷ es) h =
    cond-false (is_some (picked e)) (e ∷ filter (λ x. is_some (picked x)) es) (filter (λ x. is_some (picked x)) es) (ap is_some h.0)
    ∙ none_among picked es h.1

-- where there are lots, there is a last trade
some_trade : (n : ℕ) (window : ℤ × ℤ) (es : List Entry) (o : Option (Last ℤ)) (lots : ℤ) → 0 < nat_abs lots
    → lots ≡ total (λ e. lots_of e.kind) (trades n window es) → LastOf (pick trade_price n window) es o → (l : Last ℤ) × (o ≡ Some l)
some_trade n window es (Some l) lots some sum last = (l, refl)
some_trade n window es None lots some sum last =
    let none = sum ∙ ap (total (λ e. lots_of e.kind)) (none_among (pick trade_price n window) es last) in
    absurd (omega (arith, ints))

-- ---- one step

-- a reference with a price settles at it
settled_reference : (u : Option Answer) (p : ℤ) → price_of u ≡ Some p → (b : Settlement) × (u ≡ Some (Ok b)) × (b.price ≡ p)
settled_reference None p h = absurd (none-some p h)
settled_reference (Some (Ok b)) p h = (b, refl, same_Some b.price p h)
settled_reference (Some (Err o)) p h = absurd (none-some p h)

module _ (P : ℤ → Bool) (m : Ledger) (es : List Entry) (known : Evidence m es) (n w : ℕ) (s : Series) (u : Option Answer) (OfReference : Settlement → Type 0) (reference_told : (b : Settlement) → u ≡ Some (Ok b) → OfReference b) (t : Settlement) where
  abbrev f : Figures
  f = m.figures n w

  abbrev window : ℤ × ℤ
  window = edges m.day w

  by_step : (step : Step) → FindsPrice P (price_of u) s f step t.price → HasTime (time_of u) f step t.time → TimeByStep OfReference n window es step t
  by_step Auction h time = time_of_entry auction_price n window es f.auction t.time t.price h time (known.auction n w)
  by_step Trade h time = time_of_entry trade_price n window es f.trade t.time t.price h time (known.trade n w)
  by_step Quote (bid, ask, h, near) time =
      let q : Sides = record { bid = Some bid; ask = Some ask } in
      (q, time_of_entry quote_sides n window es f.quote t.time q h time (known.quote n w))
  by_step Average h time =
      let some = (inside_range f.money (nat_abs f.lots) h.0).0 in
      let (l, is) = some_trade n window es f.trade f.lots some (known.lots n w) (known.trade n w) in
      (l.value, time_of_entry trade_price n window es f.trade t.time l.value (ap last_value is) time (known.trade n w))
  by_step Theory h time = time
  by_step TheoryUp h time = time
  by_step Spread (r, v, h, k, e) time =
      let (b, is, price) = settled_reference u r h in
      let difference : v ≡ b.price -ℤ t.price = omega (arith, ints) in (
        b,
        reference_told b is,
        time_of_entry spread_value n window es f.spread t.time (b.price -ℤ t.price) (k ∙ ap Some difference) time (known.spread n w),
      )
  by_step PreviousSpread h time = time
  by_step Copy h time =
      let (b, is, price) = settled_reference u t.price h in
      (b, reference_told b is, sym price, time ∙ ap time_of is)
  by_step Previous h time = time
  by_step Ruling h time = time

-- ---- one series

-- of a settlement that means what the rules say, where the book's figures are evidence of the entries
time_of_one : (P : ℕ → ℤ → Bool) (ed : Edition) (m : Ledger) (es : List Entry) → Evidence m es → (n : ℕ) (s : Series) (u : Option Answer) (OfReference : Settlement → Type 0) → ((b : Settlement) → u ≡ Some (Ok b) → OfReference b) → (t : Settlement)
    → Settles P ed (station_of n s m) u (Ok t) → TimeOfOne OfReference m.day n es (row_of s ed) t
time_of_one P ed m es known n s u OfReference reference_told t (inl h) = inl (h.place, h.step, h.time)
time_of_one P ed m es known n s u OfReference reference_told t (inr (unruled, h)) = inr (record {
  position = h.position;
  place = h.place;
  stands = h.stands;
  counted = h.counted;
  step = h.step;
  time = by_step (P s.terms.ladder) m es known n (window_number h.place.window) s u OfReference reference_told t h.place.step h.price h.time;
})

-- ---- along the path

-- an earlier number than that of a listed series is that of one
listed_earlier : (count n m : ℕ) → m < n → is_listed count (pos n) ≡ true → is_listed count (pos m) ≡ true
listed_earlier count n m h is = grind (arith, ints)

module _ (d : Day) (k : ℕ) (r : RunMeaning) (ed : Edition) (near : (l : ℕ) (z : ℤ) → Near (r.lawful l) z) (told : Told d k (calls_taken_in r) (end_world r)) where
  abbrev s : State
  s = (end_world r).state

  abbrev m : Ledger
  m = (end_world r).book

  abbrev all : ℕ → Series
  all = s.roll.series

  abbrev answer : ℕ → Answer
  answer n = answer_at r.lawful ed s m n

  -- a settlement, with what is told of that of the reference
  settled_here : (n : ℕ) (o : Option ℕ) → (all n).terms.reference ≡ o → (OfReference : Settlement → Type 0)
      → ((b : Settlement) → of_reference answer o ≡ Some (Ok b) → OfReference b) → (t : Settlement) → answer n ≡ Ok t
      → TimeOfOne OfReference d n (entries (calls_taken_in r)) (row_of (series_after (calls_taken_in r) n) ed) t
  settled_here n o is OfReference reference_told t h =
      let u = of_reference answer o in
      let settles = subst (Settles r.lawful ed (station s m n) u) (sym (settled_with r.lawful ed s m told.roll.lawful n o is) ∙ h)
      (answered_explained r.lawful near ed (station s m n) u) in
      subst₂ (λ (day : Day) (x : Series). TimeOfOne OfReference day n (entries (calls_taken_in r)) (row_of x ed) t)
      (ap (λ (l : Ledger). l.day) told.book.records) (told.roll.series n)
      (time_of_one r.lawful ed m (entries (calls_taken_in r)) told.book.evidence n (all n) u OfReference reference_told t settles)

  may_ask_reference : (n q : ℕ) → (all n).terms.reference ≡ Some q → MayAsk ed (pos n) s → MayAsk ed (pos q) s
  may_ask_reference n q is may = record {
    opened = may.opened;
    listed = listed_earlier s.roll.count n q (earlier n (all n) q (told.roll.lawful n) is) may.listed;
  }

  times_told : (n : ℕ) (ns : List ℕ) → AreReferences all (all n).terms.reference ns → MayAsk ed (pos n) s → (t : Settlement) → answer n ≡ Ok t
      → TimeTold d r ed n ns t
  times_told n [] is may t h = settled_here n None is (λ b. ⊥) (λ b e. absurd (none-some (Ok b) e)) t h
  times_told n (q ∷ qs) is may t h =
      let ask = may_ask_reference n q is.0 may in
      settled_here n (Some q) is.0 (λ b. (answer_in r (pos q) ed ≡ Ok b) × TimeTold d r ed q qs b)
      (λ b e. let same = same_Some (answer q) (Ok b) e in
      (may_ask_answer r.lawful ed s m (pos q) ask ∙ ap or_no_price same, times_told q qs is.1 ask b same)) t h

  settled_is_timed : (n : ℕ) → MayAsk ed (pos n) s → (a : Answer) → answer n ≡ a → IfOk (or_no_price a) (TimeTold d r ed n (references all n))
  settled_is_timed n may (Ok t) h =
      times_told n (references all n)
      (behind_explained all told.roll.lawful n (all n).terms.reference (λ q so. earlier n (all n) q (told.roll.lawful n) so)) may t h
  settled_is_timed n may (Err o) h = tt

  asked_is_timed : (n : ℤ) → MayAsk ed n s → AnswerTimed d r n ed (answer_in r n ed)
  asked_is_timed n may =
      let q = nat_abs n in
      let same = kept_number n (lt_z n (pos s.roll.count)) may.listed in
      let ask = subst (λ (z : ℤ). MayAsk ed z s) (sym same) may in
      let timed = subst (λ (x : Outcome). IfOk x (TimeTold d r ed q (references all q))) (sym (may_ask_answer r.lawful ed s m n may))
      (settled_is_timed q ask (answer q) refl) in
      subst (λ (ns : List ℕ). IfOk (answer_in r n ed) (TimeTold d r ed q ns)) (λ i. references (λ j. told.roll.series j i) q) timed

-- so in every run from a new house and an empty book
pub answer_timed : (d : Day) (k : ℕ) (r : RunMeaning) (n : ℤ) (ed : Edition) → ((l : ℕ) (z : ℤ) → Near (r.lawful l) z) → r.start ≡ new_world d k
    → AnswerTimed d r n ed (answer_in r n ed)
answer_timed d k r n ed near new = by (is_open s.phase ed) (is_listed s.roll.count n) refl refl
  where
    s : State
    s = (end_world r).state

    answer : Outcome
    answer = or_no_price (answer_at r.lawful ed s (end_world r).book (nat_abs n))

    by : (opened listed : Bool) → is_open s.phase ed ≡ opened → is_listed s.roll.count n ≡ listed → AnswerTimed d r n ed (answer_in r n ed)
    by false listed o l =
        subst (AnswerTimed d r n ed) (sym (cond-false (is_open s.phase ed) (demand (is_listed s.roll.count n) NoSuchSeries answer) (Err WrongPhase) o)) tt
    by true false o l =
        subst (AnswerTimed d r n ed)
        (sym (cond-true (is_open s.phase ed) (demand (is_listed s.roll.count n) NoSuchSeries answer) (Err WrongPhase) o
        ∙ cond-false (is_listed s.roll.count n) answer (Err NoSuchSeries) l)) tt
    by true true o l = asked_is_timed d k r ed near (end_told d k r new) n (record { opened = o; listed = l })
