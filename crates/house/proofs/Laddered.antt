-- The ladder of every listed series is one of the set's.
use Rattle.std.proofs.Common.{◌≡◌, ℕ, ◌<◌, true, eqb, ltb, ℤ, pos, negsuc, nat_abs, Ok, Result, sym, ap, ◌∙◌, subst}
use lib.Signed.{le_z}
use Rattle.std.specs.Result.{IfOk}
use Rattle.std.proofs.lemmas.Bool.{and_parts, cond_both, ltb-true, true≢false}
use Rattle.house.specs.Calls.{State, listed_terms}
use Rattle.house.specs.Rolls.{OnLadders, Roll, changed, placed, with_listed}
use Rattle.house.specs.Series.{new_series}
use Rattle.house.specs.Terms.{is_ladder, lawful_terms}
use Rattle.house.specs.declared.faults.HouseFault.{HouseFault}
use Rattle.house.specs.declared.series.Series.{Series}
use Rattle.house.specs.declared.terms.Listing.{Listing}
use Rattle.house.specs.declared.terms.Terms.{Terms}
use Rattle.house.proofs.Admitted.{listed_have}

-- ---- a series placed at a number

placed_on : (ladders k : ℕ) (s : Series) (all : ℕ → Series) → s.terms.ladder < ladders → ((n : ℕ) → (all n).terms.ladder < ladders) → (n : ℕ) → (placed k s all n).terms.ladder < ladders
placed_on ladders k s all one others n =
    cond_both (eqb n k) s (all n) (λ (x : Series). x.terms.ladder < ladders) (λ _. one) (λ _. others n)

-- after a series with the terms of one that is listed was put at any number
pub supplied_on : (ladders k j : ℕ) (x s : Series) (before after : Roll) → OnLadders ladders before → x ≡ before.series k → s.terms ≡ x.terms → after ≡ changed j s before → OnLadders ladders after
supplied_on ladders k j x s before after on stood same is =
    let ladder : s.terms.ladder ≡ (before.series k).terms.ladder = ap (λ (t : Terms). t.ladder) same ∙ ap (λ (y : Series). y.terms.ladder) stood in
    subst (OnLadders ladders) (sym is) (placed_on ladders j s before.series (subst (λ l. l < ladders) (sym ladder) (on k)) on)

-- ---- terms that were checked

kept_ladder : (ladders : ℕ) (l : ℤ) → is_ladder ladders l ≡ true → nat_abs l < ladders
kept_ladder ladders (pos n) h = ltb-true n ladders (and_parts (le_z (pos 0) (pos n)) (ltb n ladders) h).1
kept_ladder ladders (negsuc n) h = absurd (true≢false (sym h))

admitted_on : (ladders : ℕ) (t : Listing) (s : State) (terms : Terms) → Ok terms ≡ listed_terms ladders t s → terms.ladder < ladders
admitted_on ladders t s terms is =
    subst (λ (r : Result Terms HouseFault). IfOk r (λ (u : Terms). u.ladder < ladders)) (sym is)
    (listed_have (λ (u : Terms). u.ladder < ladders) ladders t s
    (λ f _ _ h. kept_ladder ladders t.ladder (and_parts (is_ladder ladders t.ladder) (lawful_terms f s.roll.count t.reference t.previous_settlement t.previous_spread) h).0))

-- after a listing
pub listed_on : (ladders : ℕ) (t : Listing) (s : State) (terms : Terms) (after : Roll) → OnLadders ladders s.roll → Ok terms ≡ listed_terms ladders t s → after ≡ with_listed terms s.roll → OnLadders ladders after
listed_on ladders t s terms after on found is =
    subst (OnLadders ladders) (sym is) (placed_on ladders s.roll.count (new_series terms) s.roll.series (admitted_on ladders t s terms found) on)
