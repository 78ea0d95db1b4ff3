-- What holds of terms that were found lawful.
use Rattle.std.proofs.Common.{◌≡◌, ℕ, Bool, true, ◌&&◌, ltb, ℤ, pos, negsuc, nat_abs, Some, None, Ok, Err, Option, Result, sym, refl, ap, ◌∙◌}
use lib.Signed.{le_z, lt_z}
use Rattle.std.specs.Result.{IfOk}
use Rattle.std.proofs.lemmas.Bool.{and_from, and_parts, cond_both, true≢false}
use Rattle.rows.specs.Families.{family_of}
use Rattle.rows.specs.declared.families.Family.{Family}
use Rattle.house.specs.Calls.{State, demand, is_listing, listed_terms}
use Rattle.house.specs.Series.{integer_if, lawful_series, new_series}
use Rattle.house.specs.Terms.{checked, checked_for, is_ladder, lawful_reference, lawful_terms, natural_if, terms_of}
use Rattle.house.specs.declared.faults.HouseFault.{HouseFault}
use Rattle.house.specs.declared.faults.HouseFault.TheVariants.{SeriesFull, TermsNotLawful, WrongPhase}
use Rattle.house.specs.declared.terms.Listing.{Listing}
use Rattle.house.specs.declared.terms.Terms.{Terms}

-- a number that is not negative is kept as it is
pub kept_number : (r : ℤ) (b : Bool) → (le_z (pos 0) r && b) ≡ true → pos (nat_abs r) ≡ r
kept_number (pos n) b h = refl
kept_number (negsuc n) b h = absurd (true≢false (sym h))

kept_reference : (f : Family) (n : ℕ) (r : Option ℤ) → lawful_reference f n r ≡ true → integer_if (natural_if r) ≡ r
kept_reference f n None h = refl
kept_reference f n (Some r) h = ap Some (kept_number r (lt_z r (pos n)) (and_parts _ _ h).1)

kept_lawful : (f : Family) (n : ℕ) (t : Listing) → lawful_terms f n t.reference t.previous_settlement t.previous_spread ≡ true → lawful_series n (new_series (terms_of f t)) ≡ true
kept_lawful f n t h =
    let same = kept_reference f n t.reference (and_parts _ _ h).0 in
    and_from _ _ (ap (λ r. lawful_terms f n r t.previous_settlement t.previous_spread) same ∙ h) refl

-- what holds of the terms of every lawful listing that there is room for, holds of the terms under which a series is listed
pub listed_have : (Q : Terms → Type 0) (ladders : ℕ) (t : Listing) (s : State) → ((f : Family) → family_of t.family ≡ Some f → ltb s.roll.count 32 ≡ true → (is_ladder ladders t.ladder && lawful_terms f s.roll.count t.reference t.previous_settlement t.previous_spread) ≡ true → Q (terms_of f t)) → IfOk (listed_terms ladders t s) Q
listed_have Q ladders t s each =
    let n = s.roll.count in
    let found = checked n ladders t in
    cond_both (is_listing s.phase) (demand (ltb n 32) SeriesFull found) (Err WrongPhase) (λ r. IfOk r Q)
    (λ _. cond_both (ltb n 32) found (Err SeriesFull) (λ r. IfOk r Q) (by (family_of t.family) refl) (λ _. tt))
    (λ _. tt)
  where
    by : (o : Option Family) → family_of t.family ≡ o → ltb s.roll.count 32 ≡ true → IfOk (checked_for o s.roll.count ladders t) Q
    by None is room = tt
    by (Some f) is room =
        cond_both (is_ladder ladders t.ladder && lawful_terms f s.roll.count t.reference t.previous_settlement t.previous_spread) (Ok (terms_of f t)) (Err TermsNotLawful) (λ r. IfOk r Q)
        (each f is room)
        (λ _. tt)

-- the terms found, if any, are lawful for the series numbered n, and there is room for it
abbrev pub Admitted : ℕ → Result Terms HouseFault → Type 0
Admitted n r = IfOk r (λ (terms : Terms). (ltb n 32 ≡ true) × (lawful_series n (new_series terms) ≡ true))

pub listed_lawful : (ladders : ℕ) (t : Listing) (s : State) → Admitted s.roll.count (listed_terms ladders t s)
listed_lawful ladders t s =
    let n = s.roll.count in
    listed_have (λ (terms : Terms). (ltb n 32 ≡ true) × (lawful_series n (new_series terms) ≡ true)) ladders t s
    (λ f _ room h. (room, kept_lawful f n t (and_parts (is_ladder ladders t.ladder) (lawful_terms f n t.reference t.previous_settlement t.previous_spread) h).1))
