-- The rules of rows: one test of codes, computed over the whole table, and carried to each row.
use Rattle.std.proofs.Common.{◌≡◌, ℕ, zero, suc, ◌+◌, ◌-◌, ◌*◌, ◌≤◌, Bool, true, false, not, ◌&&◌, eqb, leb, List, [], ◌∷◌, get_or, Some, None, Option, sym, refl, ap, ◌∙◌, arith}
use Rattle.std.specs.List.{list_all, list_any}
use Rattle.std.proofs.lemmas.Bool.{and_parts, or_parts, not-true, leb-true, eq-eqb, eqb-true, true≢false, false≢true}
use Rattle.rows.specs.Codes.{choice_number, code_at, codes_of, decoded, window_number}
use Rattle.rows.specs.Families.{number}
use Rattle.rows.specs.RowRules.{Fitting, RowLawful, looks}
use Rattle.rows.specs.declared.families.Family.{Family}
use Rattle.rows.specs.declared.places.Choice.{Choice}
use Rattle.rows.specs.declared.places.Place.{Place}
use Rattle.rows.specs.declared.steps.Step.{Step}
use Rattle.rows.specs.declared.steps.Step.TheVariants.{Auction, Trade, Quote, Average, Theory, TheoryUp, Spread, PreviousSpread, Copy, Previous, Ruling}
use Rattle.rows.specs.declared.tables.TheConstants.{TABLE}

-- ---- the test of a row of codes

abbrev step_number : Step → ℕ
step_number Auction = 1
step_number Trade = 2
step_number Quote = 3
step_number Average = 4
step_number Theory = 5
step_number TheoryUp = 6
step_number Spread = 7
step_number PreviousSpread = 8
step_number Copy = 9
step_number Previous = 10
step_number Ruling = 11

abbrev code : Place → ℕ
code p = step_number p.step * 16 + window_number p.window

abbrev fits : Bool → Option ℕ → Bool
fits true None = false
fits true (Some w) = leb 1 w && leb w 13
fits false None = true
fits false (Some w) = false

-- a code is 0 for an empty place, or that of the place for which it stands, in a window in which the step may look
abbrev stands_for : ℕ → Option Place → Bool
stands_for c None = eqb c 0
stands_for c (Some p) = eqb c (code p) && fits (looks p.step) p.window

-- after an empty place all are empty; after any other code it does not come again
abbrev goes_on : ℕ → List ℕ → Bool
goes_on zero cs = list_all (λ d. eqb d 0) cs
goes_on (suc n) cs = not (list_any (λ d. eqb (suc n) d) cs)

abbrev passes : List ℕ → Bool
passes [] = true
passes (c ∷ cs) = stands_for c (decoded c) && (goes_on c cs && passes cs)

-- every row of the table passes, computed at once
table_passes : list_all (λ rows. list_all passes rows) TABLE ≡ true
table_passes = refl

-- ---- what it tells of a row

-- what passes in all of a list, and where there is nothing, passes at every position
passes_at : {X : Type 0} (test : X → Bool) (xs : List X) (k : ℕ) (d : X) → test d ≡ true → list_all test xs ≡ true → test (get_or xs k d) ≡ true
passes_at test [] k d none all = none
passes_at test (x ∷ xs) zero d none all = (and_parts (test x) (list_all test xs) all).0
passes_at test (x ∷ xs) (suc k) d none all = passes_at test xs k d none (and_parts (test x) (list_all test xs) all).1

each_stands : (cs : List ℕ) → passes cs ≡ true → (k : ℕ) → stands_for (get_or cs k 0) (decoded (get_or cs k 0)) ≡ true
each_stands [] h k = refl
each_stands (c ∷ cs) h zero = (and_parts (stands_for c (decoded c)) (goes_on c cs && passes cs) h).0
each_stands (c ∷ cs) h (suc k) =
    each_stands cs (and_parts (goes_on c cs) (passes cs) (and_parts (stands_for c (decoded c)) (goes_on c cs && passes cs) h).1).1 k

goes_on_from : (c : ℕ) (cs : List ℕ) → passes (c ∷ cs) ≡ true → (goes_on c cs ≡ true) × (passes cs ≡ true)
goes_on_from c cs h = and_parts (goes_on c cs) (passes cs) (and_parts (stands_for c (decoded c)) (goes_on c cs && passes cs) h).1

-- after the first 0 there is nothing but 0
empty_after : (cs : List ℕ) → passes cs ≡ true → (j k : ℕ) → j ≤ k → get_or cs j 0 ≡ 0 → get_or cs k 0 ≡ 0
empty_after [] h j k le e = refl
empty_after (suc c ∷ cs) h zero k le e = absurd (omega (arith, e))
empty_after (zero ∷ cs) h zero zero le e = refl
empty_after (zero ∷ cs) h zero (suc k) le e = eqb-true (get_or cs k 0) 0 (passes_at (λ d. eqb d 0) cs k 0 refl (goes_on_from 0 cs h).0)
empty_after (c ∷ cs) h (suc j) zero le e = absurd (omega arith)
empty_after (c ∷ cs) h (suc j) (suc k) le e = empty_after cs (goes_on_from c cs h).1 j k (omega arith) e

-- a code is found where it stands
found : (cs : List ℕ) (k n : ℕ) → get_or cs k 0 ≡ suc n → list_any (λ d. eqb (suc n) d) cs ≡ false → ⊥
found [] k n e none = absurd (omega (arith, e))
found (c ∷ cs) zero n e none = true≢false (sym (eq-eqb (suc n) c (sym e)) ∙ (or_parts (eqb (suc n) c) (list_any (λ d. eqb (suc n) d) cs) none).0)
found (c ∷ cs) (suc k) n e none = found cs k n e (or_parts (eqb (suc n) c) (list_any (λ d. eqb (suc n) d) cs) none).1

-- no code but 0 stands twice
one_position : (cs : List ℕ) → passes cs ≡ true → (j k n : ℕ) → get_or cs j 0 ≡ suc n → get_or cs k 0 ≡ suc n → j ≡ k
one_position [] h j k n a b = absurd (omega (arith, a))
one_position (c ∷ cs) h zero zero n a b = refl
one_position (zero ∷ cs) h zero (suc k) n a b = absurd (omega (arith, a))
one_position (zero ∷ cs) h (suc j) zero n a b = absurd (omega (arith, b))
one_position (suc c ∷ cs) h zero (suc k) n a b = absurd (found cs k c (b ∙ sym a) (not-true _ (goes_on_from (suc c) cs h).0))
one_position (suc c ∷ cs) h (suc j) zero n a b = absurd (found cs j c (a ∙ sym b) (not-true _ (goes_on_from (suc c) cs h).0))
one_position (c ∷ cs) h (suc j) (suc k) n a b = ap suc (one_position cs (goes_on_from c cs h).1 j k n a b)

-- ---- what a code stands for

empty_code : (c : ℕ) → stands_for c (decoded c) ≡ true → decoded c ≡ None → c ≡ 0
empty_code c h e = eqb-true c 0 (sym (ap (stands_for c) e) ∙ h)

place_code : (c : ℕ) (p : Place) → stands_for c (decoded c) ≡ true → decoded c ≡ Some p → (c ≡ code p) × (fits (looks p.step) p.window ≡ true)
place_code c p h e =
    let both = and_parts (eqb c (code p)) (fits (looks p.step) p.window) (sym (ap (stands_for c) e) ∙ h) in
    (eqb-true c (code p) both.0, both.1)

some_code : (p : Place) → (n : ℕ) × (code p ≡ suc n)
some_code p = by p.step refl
  where
    by : (s : Step) → p.step ≡ s → (n : ℕ) × (code p ≡ suc n)
    by s is = (code p - 1, step s (ap step_number is))
      where
        step : (s : Step) → step_number p.step ≡ step_number s → code p ≡ suc (code p - 1)
        step Auction e = omega (arith, e)
        step Trade e = omega (arith, e)
        step Quote e = omega (arith, e)
        step Average e = omega (arith, e)
        step Theory e = omega (arith, e)
        step TheoryUp e = omega (arith, e)
        step Spread e = omega (arith, e)
        step PreviousSpread e = omega (arith, e)
        step Copy e = omega (arith, e)
        step Previous e = omega (arith, e)
        step Ruling e = omega (arith, e)

fitting : (b : Bool) (w : Option ℕ) → fits b w ≡ true → Fitting b w
fitting true None e = false≢true e
fitting true (Some w) e = let both = and_parts (leb 1 w) (leb w 13) e in (leb-true 1 w both.0, leb-true w 13 both.1)
fitting false None e = tt
fitting false (Some w) e = false≢true e

codes_lawful : (cs : List ℕ) → passes cs ≡ true → RowLawful (λ k. decoded (get_or cs k 0))
codes_lawful cs h k = record {
  gapless = λ e j le. ap decoded (empty_after cs h k j le (empty_code (get_or cs k 0) (each_stands cs h k) e));
  once = λ p e j f.
      let here = place_code (get_or cs k 0) p (each_stands cs h k) e in
      let there = place_code (get_or cs j 0) p (each_stands cs h j) f in
      let some = some_code p in
      one_position cs h j k some.0 (there.0 ∙ some.1) (here.0 ∙ some.1);
  window = λ p e. fitting (looks p.step) p.window (place_code (get_or cs k 0) p (each_stands cs h k) e).1;
}

-- ---- of every row of the table

pub row_lawful : (f : Family) (c : Choice) → RowLawful (λ k. decoded (code_at f c k))
row_lawful f c =
    codes_lawful (codes_of f c)
    (passes_at passes (get_or TABLE (number f - 1) []) (choice_number c) [] refl
    (passes_at (λ rows. list_all passes rows) TABLE (number f - 1) [] refl table_passes))
