-- The house and the book are as the calls taken tell, and one call more keeps that so.
use Rattle.std.proofs.Common.{◌≡◌, ℕ, ◌+◌, ◌<◌, ◌≤◌, Bool, true, false, eqb, ltb, List, [], ◌∷◌, ◌++◌, length, get_or, ℤ, pos, negsuc, nat_abs, is_ok, Some, None, Ok, Err, Option, Result, sym, refl, ap, ◌∙◌, subst, ⊎_elim, arith}
use lib.Signed.{le_z}
use Rattle.std.specs.Result.{IfOk}
use Rattle.std.proofs.lemmas.List.{append-nil, get_or_append_left, get_or_past, get_or_push, flat_map_more, length_push}
use Rattle.std.proofs.lemmas.List.Sums.{fold_push}
use Rattle.std.proofs.lemmas.Bool.{and_parts, cases_eq, cases_lt, cond-false, cond-true, eq-eqb, ltb-true, ne_eqb, true≢false}
use Rattle.book.specs.Entries.{allowed, side_lawful}
use Rattle.book.specs.Evidence.{Evidence}
use Rattle.book.specs.Figures.{is_series}
use Rattle.book.specs.Ledgers.{Ledger, take_answer, with_taken}
use Rattle.book.specs.Records.{every, recorded}
use Rattle.book.specs.declared.days.Day.{Day}
use Rattle.book.specs.declared.entries.Entry.{Entry}
use Rattle.book.specs.declared.faults.BookFault.{BookFault}
use Rattle.book.proofs.Folds.{recorded_push, takes_one}
use Rattle.book.proofs.RecordedEvidence.{evidence}
use Rattle.rows.specs.Families.{family_of}
use Rattle.house.specs.Calls.{State, by_book, demand, entry_after, entry_answer, entry_passed, listed_terms, may_rule, moved, ruling_after, ruling_answer, ruling_of, rung, then, theory_after, theory_answer, ok_with, with_ruling, with_theory}
use Rattle.house.specs.Rolls.{Roll, changed, is_listed, placed, with_listed}
use Rattle.house.specs.Series.{blank, lawful_ruling, lawful_series, new_series}
use Rattle.house.specs.declared.faults.HouseFault.{HouseFault}
use Rattle.house.specs.declared.faults.HouseFault.TheVariants.{NoSuchSeries, SuppliedBeyondLimits}
use Rattle.house.specs.declared.phases.Bell.{Bell}
use Rattle.house.specs.declared.phases.Bell.TheVariants as bells
use Rattle.house.specs.declared.phases.Phase.{Phase}
use Rattle.house.specs.declared.phases.Phase.TheVariants as phases
use Rattle.house.specs.declared.series.Ruling.{Ruling}
use Rattle.house.specs.declared.series.Series.{Series}
use Rattle.house.specs.declared.terms.Listing.{Listing}
use Rattle.house.specs.declared.terms.Terms.{Terms}
use Rattle.house.proofs.Admitted.{Admitted, listed_have, listed_lawful}
use Rattle.house.proofs.Slots.{lawful_ruled, lawful_theory}
use Rattle.runs.specs.ByCalls.{entries, entries_in, last_ruling, last_theory, terms_listed, phase_after, phase_by, phase_next, ruling_next, series_after, terms_by, terms_in, theory_next}
use Rattle.calls.specs.Worlds.{World, is_taken, new_world, after_call}
use Rattle.runs.specs.Told.{BookTold, RollTold, Told}
use Rattle.calls.specs.declared.call.Call.{Call}
use Rattle.calls.specs.declared.call.Call.TheVariants.{List as ListCall, Ring, Enter, SetTheory, SetRuling, Settle}
use Rattle.calls.proofs.Refusals.{ok_value, listed_ok, ok_with_ok}

-- figures of the entries taken are evidence of them
evidence_told : (d : Day) (k : ℕ) (es : List Entry) (m : Ledger) → m ≡ recorded d k es → Evidence m es
evidence_told d k es m records = subst (λ (l : Ledger). Evidence l es) (sym records) (evidence d k es)

pub told_new : (d : Day) (k : ℕ) → Told d k [] (new_world d k)
told_new d k = record {
  phase = refl;
  roll = record { series = λ n. refl; count = refl; lawful = λ n. refl; unused = λ n h. refl };
  book = record { records = refl; lawful = refl; room = omega arith; evidence = evidence d k [] };
}

-- ---- readings of one call more

terms_listed_push : (xs : List Call) (c : Call) → terms_listed (xs ++ (c ∷ [])) ≡ terms_listed xs ++ terms_in c
terms_listed_push xs c = sym (flat_map_more terms_in [] xs c)

terms_listed_same : (xs : List Call) (c : Call) → terms_in c ≡ [] → terms_listed (xs ++ (c ∷ [])) ≡ terms_listed xs
terms_listed_same xs c none = terms_listed_push xs c ∙ ap (λ ts. terms_listed xs ++ ts) none ∙ append-nil (terms_listed xs)

entries_push : (xs : List Call) (c : Call) → entries (xs ++ (c ∷ [])) ≡ entries xs ++ entries_in c
entries_push xs c = sym (flat_map_more entries_in [] xs c)

entries_same : (xs : List Call) (c : Call) → entries_in c ≡ [] → entries (xs ++ (c ∷ [])) ≡ entries xs
entries_same xs c none = entries_push xs c ∙ ap (λ es. entries xs ++ es) none ∙ append-nil (entries xs)

-- from its parts
series_after_as : (xs : List Call) (c : Call) (n : ℕ) (t : Terms) (o : Option ℤ) (q : Option Ruling)
    → get_or (terms_listed (xs ++ (c ∷ []))) n blank.terms ≡ t → theory_next n (last_theory n xs) c ≡ o
    → ruling_next n (last_ruling n xs) c ≡ q → series_after (xs ++ (c ∷ [])) n ≡ record { terms = t; theory = o; ruling = q }
series_after_as xs c n t o q terms theory ruling =
    let supplied = fold_push (theory_next n) None xs c ∙ theory in
    let ruled = fold_push (ruling_next n) None xs c ∙ ruling in
    λ i. record { terms = terms i; theory = supplied i; ruling = ruled i }

-- after a call that lists nothing
series_after_with : (xs : List Call) (c : Call) (n : ℕ) (o : Option ℤ) (q : Option Ruling) → terms_in c ≡ []
    → theory_next n (last_theory n xs) c ≡ o → ruling_next n (last_ruling n xs) c ≡ q
    → series_after (xs ++ (c ∷ [])) n ≡ record { terms = (series_after xs n).terms; theory = o; ruling = q }
series_after_with xs c n o q none theory ruling =
    series_after_as xs c n (series_after xs n).terms o q
    (ap (λ ts. get_or ts n blank.terms) (terms_listed_same xs c none)) theory ruling

-- ---- a call that leaves the series, or the book

roll_stays : (xs : List Call) (c : Call) (r : Roll) → terms_in c ≡ [] → ((n : ℕ) (o : Option ℤ) → theory_next n o c ≡ o)
    → ((n : ℕ) (q : Option Ruling) → ruling_next n q c ≡ q) → RollTold xs r → RollTold (xs ++ (c ∷ [])) r
roll_stays xs c r none theory ruling t = record {
  series = λ n. t.series n
      ∙ sym (series_after_with xs c n (last_theory n xs) (last_ruling n xs) none (theory n (last_theory n xs))
      (ruling n (last_ruling n xs)));
  count = t.count ∙ sym (ap length (terms_listed_same xs c none));
  lawful = t.lawful;
  unused = t.unused;
}

book_stays : (d : Day) (k : ℕ) (xs : List Call) (c : Call) (m : Ledger) → entries_in c ≡ [] → BookTold d k xs m
    → BookTold d k (xs ++ (c ∷ [])) m
book_stays d k xs c m none t =
    let same = sym (entries_same xs c none) in
    record {
      records = t.records ∙ ap (recorded d k) same;
      lawful = ap (every (allowed d)) (sym same) ∙ t.lawful;
      room = subst (λ es. length es ≤ k) same t.room;
      evidence = subst (Evidence m) same t.evidence;
    }

-- ---- a series placed at a number

placed_at : (k : ℕ) (s : Series) (all : ℕ → Series) (n : ℕ) → n ≡ k → placed k s all n ≡ s
placed_at k s all n e = cond-true (eqb n k) s (all n) (eq-eqb n k e)

placed_off : (k : ℕ) (s : Series) (all : ℕ → Series) (n : ℕ) → (n ≡ k → ⊥) → placed k s all n ≡ all n
placed_off k s all n o = cond-false (eqb n k) s (all n) (ne_eqb n k o)

placed_lawful : (k : ℕ) (s : Series) (all : ℕ → Series) → lawful_series k s ≡ true → ((n : ℕ) → lawful_series n (all n) ≡ true)
    → (n : ℕ) → lawful_series n (placed k s all n) ≡ true
placed_lawful k s all one others n =
    ⊎_elim
    (λ e. ap (lawful_series n) (placed_at k s all n e) ∙ ap (λ m. lawful_series m s) e ∙ one)
    (λ o. ap (lawful_series n) (placed_off k s all n o) ∙ others n)
    (cases_eq n k)

-- ---- listings

get_or_push_other : {X : Type 0} (xs : List X) (x d : X) (n : ℕ) → (n ≡ length xs → ⊥)
    → get_or (xs ++ (x ∷ [])) n d ≡ get_or xs n d
get_or_push_other xs x d n other =
    ⊎_elim
    (λ l. get_or_append_left xs (x ∷ []) d n l)
    (λ l. let long = length_push xs x in get_or_past (xs ++ (x ∷ [])) n d (omega arith) ∙ sym (get_or_past xs n d l))
    (cases_lt n (length xs))

-- the next number was unused, so that no value stands there yet
roll_listed : (xs : List Call) (l : Listing) (r : Roll)
    → lawful_series r.count (new_series (terms_by (family_of l.family) l)) ≡ true → RollTold xs r
    → RollTold (xs ++ (ListCall l ∷ [])) (with_listed (terms_by (family_of l.family) l) r)
roll_listed xs l r lawful t = record {
  series = λ n. ⊎_elim (here n) (other n) (cases_eq n r.count);
  count = ap (λ n. n + 1) t.count ∙ sym (ap length more ∙ length_push (terms_listed xs) terms);
  lawful = placed_lawful r.count (new_series terms) r.series lawful t.lawful;
  unused = λ n h. placed_off r.count (new_series terms) r.series n (λ e. omega arith) ∙ t.unused n (omega arith);
}
  where
    terms : Terms
    terms = terms_by (family_of l.family) l

    more : terms_listed (xs ++ (ListCall l ∷ [])) ≡ terms_listed xs ++ (terms ∷ [])
    more = terms_listed_push xs (ListCall l)

    here : (n : ℕ) → n ≡ r.count → (with_listed terms r).series n ≡ series_after (xs ++ (ListCall l ∷ [])) n
    here n e =
        let new : series_after xs n ≡ blank = sym (t.series n) ∙ t.unused n (omega arith) in
        placed_at r.count (new_series terms) r.series n e
        ∙ sym
        (series_after_as xs (ListCall l) n terms None None
        (ap (λ ts. get_or ts n blank.terms) more ∙ get_or_push (terms_listed xs) terms blank.terms n (sym (e ∙ t.count)))
        (ap (λ (s : Series). s.theory) new)
        (ap (λ (s : Series). s.ruling) new))

    other : (n : ℕ) → (n ≡ r.count → ⊥) → (with_listed terms r).series n ≡ series_after (xs ++ (ListCall l ∷ [])) n
    other n o =
        placed_off r.count (new_series terms) r.series n o
        ∙ t.series n
        ∙ sym
        (series_after_as xs (ListCall l) n (series_after xs n).terms (last_theory n xs) (last_ruling n xs)
        (ap (λ ts. get_or ts n blank.terms) more ∙ get_or_push_other (terms_listed xs) terms blank.terms n
        (λ e. o (e ∙ sym t.count)))
        refl
        refl)

-- the terms found, if any, are those of the listing
listed_named : (ladders : ℕ) (l : Listing) (s : State)
    → IfOk (listed_terms ladders l s) (λ terms. terms ≡ terms_by (family_of l.family) l)
listed_named ladders l s =
    listed_have (λ (terms : Terms). terms ≡ terms_by (family_of l.family) l) ladders l s
    (λ f is _ _. ap (λ o. terms_by o l) (sym is))

told_listing : (ladders : ℕ) (xs : List Call) (l : Listing) (s : State) → is_ok (listed_terms ladders l s) ≡ true
    → RollTold xs s.roll → RollTold (xs ++ (ListCall l ∷ [])) (moved (listed_terms ladders l s) (λ terms. record { phase = s.phase; roll = with_listed terms s.roll }) s).roll
told_listing ladders xs l s ok t =
    let f = ok_value (listed_terms ladders l s) ok in
    let is : f.0 ≡ terms_by (family_of l.family) l =
    subst (λ (r : Result Terms HouseFault). IfOk r (λ (terms : Terms). terms ≡ terms_by (family_of l.family) l)) f.1
    (listed_named ladders l s)
    in
    let here : Admitted s.roll.count (Ok f.0) = subst (Admitted s.roll.count) f.1 (listed_lawful ladders l s) in
    subst (λ (r : Result Terms HouseFault). RollTold (xs ++ (ListCall l ∷ []))
    (moved r (λ terms. record { phase = s.phase; roll = with_listed terms s.roll }) s).roll) (sym (f.1 ∙ ap Ok is))
    (roll_listed xs l s.roll (ap (λ terms. lawful_series s.roll.count (new_series terms)) (sym is) ∙ here.1) t)

-- ---- supplied values

-- a number of a listed series names that series and no other
listed_number : (count : ℕ) (z : ℤ) → is_listed count z ≡ true → (nat_abs z < count) × (is_series (nat_abs z) z ≡ true)
listed_number count (pos n) h = (ltb-true n count (and_parts (le_z (pos 0) (pos n)) (ltb n count) h).1, eq-eqb n n refl)
listed_number count (negsuc n) h = absurd (true≢false (sym h))

other_number : (z : ℤ) (n : ℕ) → (n ≡ nat_abs z → ⊥) → is_series n z ≡ false
other_number (pos m) n other = ne_eqb m n (λ e. other (sym e))
other_number (negsuc m) n other = refl

roll_changed : (xs : List Call) (c : Call) (r : Roll) (k : ℕ) (s : Series) → terms_in c ≡ [] → k < r.count
    → lawful_series k s ≡ true → s ≡ series_after (xs ++ (c ∷ [])) k
    → ((n : ℕ) → (n ≡ k → ⊥) → series_after (xs ++ (c ∷ [])) n ≡ series_after xs n) → RollTold xs r
    → RollTold (xs ++ (c ∷ [])) (changed k s r)
roll_changed xs c r k s none few lawful here others t = record {
  series = λ n. ⊎_elim (λ e. placed_at k s r.series n e ∙ here ∙ ap (series_after (xs ++ (c ∷ []))) (sym e))
      (λ o. placed_off k s r.series n o ∙ t.series n ∙ sym (others n o)) (cases_eq n k);
  count = t.count ∙ sym (ap length (terms_listed_same xs c none));
  lawful = placed_lawful k s r.series lawful t.lawful;
  unused = λ n h. placed_off k s r.series n (λ e. omega arith) ∙ t.unused n h;
}

-- both demands on a supplied value were met
both_met : (a b : Bool) (f g : HouseFault) → is_ok (demand {A = Unit {0}} a f (demand b g (Ok tt))) ≡ true
    → (a ≡ true) × (b ≡ true)
both_met true true f g h = (refl, refl)
both_met true false f g h = absurd (true≢false (sym h))
both_met false b f g h = absurd (true≢false (sym h))

told_theory : (xs : List Call) (z : ℤ) (value : Option ℤ) (s : State) → is_ok (theory_answer z value s) ≡ true
    → RollTold xs s.roll → RollTold (xs ++ (SetTheory z value ∷ [])) (theory_after z value s).roll
told_theory xs z value s ok t =
    let r = s.roll in
    let k = nat_abs z in
    let x = r.series k in
    let c = SetTheory z value in
    let met = both_met (is_listed r.count z) (side_lawful value) NoSuchSeries SuppliedBeyondLimits ok in
    let number = listed_number r.count z met.0 in
    let f = ok_value (theory_answer z value s) ok in
    subst (λ (a : Result Unit HouseFault). RollTold (xs ++ (c ∷ []))
    (moved a (λ _. record { phase = s.phase; roll = changed k (with_theory value x) r }) s).roll) (sym f.1)
    (roll_changed xs c r k (with_theory value x) refl number.0
    (lawful_theory k x value (t.lawful k) met.1)
    (ap (with_theory value) (t.series k)
    ∙ sym (series_after_with xs c k value (last_ruling k xs) refl
    (cond-true (is_series k z) value (last_theory k xs) number.1) refl))
    (λ n o. series_after_with xs c n (last_theory n xs) (last_ruling n xs) refl
    (cond-false (is_series n z) value (last_theory n xs) (other_number z n o)) refl)
    t)

ruling_lawful : (value : Option ℤ) (first : Bool) → may_rule value first ≡ true → lawful_ruling (ruling_of value first) ≡ true
ruling_lawful None first h = refl
ruling_lawful (Some v) first h = h

told_ruling : (xs : List Call) (z : ℤ) (value : Option ℤ) (first : Bool) (s : State)
    → is_ok (ruling_answer z value first s) ≡ true → RollTold xs s.roll
    → RollTold (xs ++ (SetRuling z value first ∷ [])) (ruling_after z value first s).roll
told_ruling xs z value first s ok t =
    let r = s.roll in
    let k = nat_abs z in
    let x = r.series k in
    let c = SetRuling z value first in
    let ruling = ruling_of value first in
    let met = both_met (is_listed r.count z) (may_rule value first) NoSuchSeries SuppliedBeyondLimits ok in
    let number = listed_number r.count z met.0 in
    let f = ok_value (ruling_answer z value first s) ok in
    subst (λ (a : Result Unit HouseFault). RollTold (xs ++ (c ∷ []))
    (moved a (λ _. record { phase = s.phase; roll = changed k (with_ruling ruling x) r }) s).roll) (sym f.1)
    (roll_changed xs c r k (with_ruling ruling x) refl number.0
    (lawful_ruled k x ruling (t.lawful k) (ruling_lawful value first met.1))
    (ap (with_ruling ruling) (t.series k)
    ∙ sym (series_after_with xs c k (last_theory k xs) ruling refl refl
    (cond-true (is_series k z) ruling (last_ruling k xs) number.1)))
    (λ n o. series_after_with xs c n (last_theory n xs) (last_ruling n xs) refl refl
    (cond-false (is_series n z) ruling (last_ruling n xs) (other_number z n o)))
    t)

-- ---- bells

-- a call that rings no bell leaves the phase
phase_kept : (xs : List Call) (c : Call) (p : Phase) → ((q : Phase) → phase_next q c ≡ q) → p ≡ phase_after xs
    → p ≡ phase_after (xs ++ (c ∷ []))
phase_kept xs c p none is = is ∙ sym (fold_push phase_next phases.Listing xs c ∙ none (phase_after xs))

-- and so it does where it changes the state otherwise
phase_stays : {A : Type 0} (xs : List Call) (c : Call) (r : Result A HouseFault) (move : A → State) (s : State)
    → ((p : Phase) → phase_next p c ≡ p) → ((a : A) → (move a).phase ≡ s.phase) → s.phase ≡ phase_after xs
    → (moved r move s).phase ≡ phase_after (xs ++ (c ∷ []))
phase_stays xs c r move s none same is = by r ∙ phase_kept xs c s.phase none is
  where
    by : (q : Result _ HouseFault) → (moved q move s).phase ≡ s.phase
    by (Ok a) = same a
    by (Err f) = refl

-- a bell that was taken tells the phase
phase_rung : (p : Phase) (b : Bell) (s : State) → is_ok (rung p b) ≡ true
    → (moved (rung p b) (λ q. record { phase = q; roll = s.roll }) s).phase ≡ phase_by b
phase_rung phases.Listing bells.Open s ok = refl
phase_rung phases.Listing bells.Close s ok = absurd (true≢false (sym ok))
phase_rung phases.Trading bells.Open s ok = absurd (true≢false (sym ok))
phase_rung phases.Trading bells.Close s ok = refl
phase_rung phases.Closed bells.Open s ok = absurd (true≢false (sym ok))
phase_rung phases.Closed bells.Close s ok = absurd (true≢false (sym ok))

-- a bell leaves the series
bell_leaves : (r : Result Phase HouseFault) (s : State) → (moved r (λ p. record { phase = p; roll = s.roll }) s).roll ≡ s.roll
bell_leaves (Ok p) s = refl
bell_leaves (Err f) s = refl

-- ---- entries

-- what the house takes, the book takes
book_ok : (a : Result Unit HouseFault) (b : Result Unit BookFault) → is_ok (then a (by_book b)) ≡ true → is_ok b ≡ true
book_ok (Ok u) (Ok v) h = refl
book_ok (Ok u) (Err f) h = h
book_ok (Err f) b h = absurd (true≢false (sym h))

told_entry : (d : Day) (k : ℕ) (lawful : ℕ → ℤ → Bool) (xs : List Call) (e : Entry) (s : State) (m : Ledger)
    → is_ok (entry_answer lawful m e s) ≡ true → BookTold d k xs m
    → BookTold d k (xs ++ (Enter e ∷ [])) (entry_after lawful e s m)
told_entry d k lawful xs e s m ok t =
    let taken = sym (ok_value (take_answer m e) (book_ok (entry_passed lawful m.day e s) (take_answer m e) ok)).1 in
    let one = takes_one d k (entries xs) e t.lawful t.room (taken ∙ ap (λ l. take_answer l e) t.records) in
    let more = entries_push xs (Enter e) in
    let records = ap (λ a. moved a (λ _. with_taken m e) m) (ok_value (entry_answer lawful m e s) ok).1
    ∙ ap (λ l. with_taken l e) t.records
    ∙ sym (recorded_push d k (entries xs) e)
    ∙ ap (recorded d k) (sym more)
    in
    record {
      records = records;
      lawful = ap (every (allowed d)) more ∙ one.allowed;
      room = subst (λ es. length es ≤ k) (sym more) one.room;
      evidence = evidence_told d k (entries (xs ++ (Enter e ∷ []))) (entry_after lawful e s m) records;
    }

-- ---- any call taken

pub told_call : (d : Day) (k ladders : ℕ) (lawful : ℕ → ℤ → Bool) (xs : List Call) (c : Call) (w : World)
    → is_taken ladders lawful c w ≡ true → Told d k xs w → Told d k (xs ++ (c ∷ [])) (after_call ladders lawful c w)
told_call d k ladders lawful xs (ListCall l) w ok t = record {
  phase = phase_stays xs (ListCall l) (listed_terms ladders l w.state) _ w.state (λ p. refl) (λ a. refl) t.phase;
  roll = told_listing ladders xs l w.state (sym (listed_ok w.state.roll.count (listed_terms ladders l w.state)) ∙ ok) t.roll;
  book = book_stays d k xs (ListCall l) w.book refl t.book;
}
told_call d k ladders lawful xs (Ring b) w ok t = record {
  phase =
      let r = rung w.state.phase b in
      phase_rung w.state.phase b w.state (sym (ok_with_ok tt r) ∙ sym (ok_with_ok _ (ok_with tt r)) ∙ ok)
      ∙ sym (fold_push phase_next phases.Listing xs (Ring b));
  roll = subst (RollTold (xs ++ (Ring b ∷ []))) (sym (bell_leaves (rung w.state.phase b) w.state))
      (roll_stays xs (Ring b) w.state.roll refl (λ n o. refl) (λ n q. refl) t.roll);
  book = book_stays d k xs (Ring b) w.book refl t.book;
}
told_call d k ladders lawful xs (Enter e) w ok t = record {
  phase = phase_kept xs (Enter e) w.state.phase (λ p. refl) t.phase;
  roll = roll_stays xs (Enter e) w.state.roll refl (λ n o. refl) (λ n q. refl) t.roll;
  book = told_entry d k lawful xs e w.state w.book (sym (ok_with_ok _ (entry_answer lawful w.book e w.state)) ∙ ok) t.book;
}
told_call d k ladders lawful xs (SetTheory z value) w ok t = record {
  phase = phase_stays xs (SetTheory z value) (theory_answer z value w.state) _ w.state (λ p. refl) (λ a. refl) t.phase;
  roll = told_theory xs z value w.state (sym (ok_with_ok _ (theory_answer z value w.state)) ∙ ok) t.roll;
  book = book_stays d k xs (SetTheory z value) w.book refl t.book;
}
told_call d k ladders lawful xs (SetRuling z value first) w ok t = record {
  phase = phase_stays xs (SetRuling z value first) (ruling_answer z value first w.state) _ w.state (λ p. refl)
      (λ a. refl) t.phase;
  roll = told_ruling xs z value first w.state (sym (ok_with_ok _ (ruling_answer z value first w.state)) ∙ ok) t.roll;
  book = book_stays d k xs (SetRuling z value first) w.book refl t.book;
}
told_call d k ladders lawful xs (Settle z edition) w ok t = record {
  phase = phase_kept xs (Settle z edition) w.state.phase (λ p. refl) t.phase;
  roll = roll_stays xs (Settle z edition) w.state.roll refl (λ n o. refl) (λ n q. refl) t.roll;
  book = book_stays d k xs (Settle z edition) w.book refl t.book;
}
