use Rattle.std.proofs.Common.{rules, ◌≡◌, ℕ, true, false, cond, ℤ, Ok, Err, Option, Result}
use Rattle.rows.specs.declared.families.Family.{Family}
use Rattle.house.specs.Terms.{lawful_reference, natural_if}
use Rattle.house.specs.declared.faults.HouseFault.{HouseFault}
use Rattle.house.specs.declared.faults.HouseFault.TheVariants.{TermsNotLawful}
use Rattle.house.proofs.terms.Listing.checked.Goals as goal

-- a reference that was taken is lawful, and the one listed
taken_reference : (f : Family) (n : ℕ) (o : Option ℤ) (r : Option ℕ) → ◌≡◌ {A = Result (Option ℕ) HouseFault} (Ok r) (cond (lawful_reference f n o) (Ok (natural_if o)) (Err TermsNotLawful)) → (lawful_reference f n o ≡ true) × (r ≡ natural_if o)
taken_reference f n o r = by (lawful_reference f n o)
  where
    by : (b : _) → ◌≡◌ {A = Result (Option ℕ) HouseFault} (Ok r) (cond b (Ok (natural_if o)) (Err TermsNotLawful)) → (b ≡ true) × (r ≡ natural_if o)
    by true e = (cc, cc)
    by false e = cc

pub returns : goal.returns
returns c =
    let r = taken_reference c.in_ok-family.family c.args.n c.args.self.now.reference c.in_ok-reference.reference c.in_ok-reference.ensures in
    search rules
