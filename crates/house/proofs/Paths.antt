-- The path behind a series.
use Rattle.std.proofs.Common.{◌≡◌, ℕ, zero, suc, ◌<◌, ◌≤◌, Bool, true, ◌&&◌, [], ◌∷◌, map, ℤ, pos, Some, None, Option, refl, ap, ◌∙◌, subst, arith}
use lib.Signed.{le_z, lt_z}
use Rattle.std.proofs.lemmas.Int.{ints}
use Rattle.std.proofs.lemmas.Bool.{and_parts}
use Rattle.book.specs.Entries.{side_lawful}
use Rattle.book.specs.Ledgers.{Ledger}
use Rattle.rows.specs.declared.families.Family.{Family}
use Rattle.rows.specs.declared.places.Edition.{Edition}
use Rattle.house.specs.Answers.{Answer, answered, behind, references, path_answer, answer_at, station}
use Rattle.house.specs.Calls.{State}
use Rattle.house.specs.Series.{integer_if, lawful_ruling, lawful_series}
use Rattle.house.specs.Terms.{lawful_reference, lawful_spread, lawful_terms, may_refer}
use Rattle.house.specs.declared.series.Series.{Series}

-- ---- references are earlier

earlier_reference : (f : Family) (n : ℕ) (r : ℕ) → lawful_reference f n (Some (pos r)) ≡ true → r < n
earlier_reference f n r h =
    let p = (and_parts (may_refer f) (le_z (pos 0) (pos r) && lt_z (pos r) (pos n)) h).1 in
    let q = (and_parts (le_z (pos 0) (pos r)) (lt_z (pos r) (pos n)) p).1 in
    grind (arith, ints)

-- the reference of a lawful series is an earlier one
pub earlier : (n : ℕ) (s : Series) (r : ℕ) → lawful_series n s ≡ true → s.terms.reference ≡ Some r → r < n
earlier n s r h is =
    let t = s.terms in
    let terms = lawful_terms t.family n (integer_if t.reference) t.previous_settlement t.previous_spread in
    let whole = and_parts terms (side_lawful s.theory && lawful_ruling s.ruling) h in
    let rest = and_parts (lawful_reference t.family n (integer_if t.reference)) (side_lawful t.previous_settlement && lawful_spread t.family t.previous_spread) whole.0 in
    earlier_reference t.family n r (subst (λ (o : Option ℕ). lawful_reference t.family n (integer_if o) ≡ true) is rest.0)

-- ---- more steps than there are references change nothing

module _ (all : ℕ → Series) (lawful : (n : ℕ) → lawful_series n (all n) ≡ true) where
  enough : (k m : ℕ) (o : Option ℕ) → m ≤ k → ((r : ℕ) → o ≡ Some r → r < m) → behind k all o ≡ behind m all o
  enough k m None le under = refl
  enough zero zero (Some r) le under = refl
  enough zero (suc m) (Some r) le under = absurd (omega arith)
  enough (suc k) zero (Some r) le under = let h = under r refl in absurd (omega arith)
  enough (suc k) (suc m) (Some r) le under =
      let h = under r refl in
      ap (λ rs. r ∷ rs) (enough k m (all r).terms.reference (omega arith) (λ q is. let l = earlier r (all r) q (lawful r) is in omega arith))

  -- behind a series stand its reference and what stands behind that
  pub next_reference : (n r : ℕ) → (all n).terms.reference ≡ Some r → references all n ≡ r ∷ references all r
  next_reference zero r is = let h = earlier 0 (all 0) r (lawful 0) is in absurd (omega arith)
  next_reference (suc n) r is =
      let h = earlier (suc n) (all (suc n)) r (lawful (suc n)) is in
      ap (behind (suc n) all) is ∙ ap (λ rs. r ∷ rs) (enough n r (all r).terms.reference (omega arith) (λ q so. earlier r (all r) q (lawful r) so))

  pub no_reference : (n : ℕ) → (all n).terms.reference ≡ None → references all n ≡ []
  no_reference n is = ap (behind n all) is

-- ---- the answer for a series, by that for its reference

-- the answer for the reference, if there is one
abbrev pub of_reference : (ℕ → Answer) → Option ℕ → Option Answer
of_reference answer None = None
of_reference answer (Some r) = Some (answer r)

module _ (P : ℕ → ℤ → Bool) (ed : Edition) (s : State) (m : Ledger) (lawful : (n : ℕ) → lawful_series n (s.roll.series n) ≡ true) where
  pub settled_with : (n : ℕ) (o : Option ℕ) → (s.roll.series n).terms.reference ≡ o → answer_at P ed s m n ≡ answered P ed (station s m n) (of_reference (answer_at P ed s m) o)
  settled_with n None is = ap (λ rs. path_answer P ed (station s m n) (map (station s m) rs)) (no_reference s.roll.series lawful n is)
  settled_with n (Some r) is = ap (λ rs. path_answer P ed (station s m n) (map (station s m) rs)) (next_reference s.roll.series lawful n r is)
