-- Where a line departs from the grammar that a writer gives.
use Rattle.std.specs.Prelude.{◌≡◌, ℕ, ◌+◌, ◌⊎◌, List, [], ◌∷◌, ◌++◌, length, Ok, Err, Result}
use Rattle.lines.specs.declared.faults.NotRead.{NotRead}

-- the front and the field begin the writing of something lawful
pub record GoesOn {C : Type 0} (spelt : C → List (List ℕ)) (lawful : C → Type 0) (good : List (List ℕ)) (f : List ℕ) : Type 0 where
  pub meant : C
  pub holds : lawful meant
  pub more : List (List ℕ)
  pub writes : spelt meant ≡ good ++ (f ∷ more)

-- some field goes on after the front
pub record Lacks {C : Type 0} (spelt : C → List (List ℕ)) (lawful : C → Type 0) (good : List (List ℕ)) : Type 0 where
  pub field : List ℕ
  pub goes : GoesOn spelt lawful good field

-- the front is the whole writing of something lawful
pub record Whole {C : Type 0} (spelt : C → List (List ℕ)) (lawful : C → Type 0) (good : List (List ℕ)) : Type 0 where
  pub meant : C
  pub holds : lawful meant
  pub writes : spelt meant ≡ good

-- after a good front, where a next field would begin at q: no field is left though one is lacking, and the place is the end of
-- the line; or the next field is wrong, and the place is its start; or the front was whole, and the place is its end
abbrev pub Breaks : {C : Type 0} → (C → List (List ℕ)) → (C → Type 0) → List (List ℕ) → List (List ℕ) → ℕ → ℕ → Type 0
Breaks spelt lawful good [] q p = Lacks spelt lawful good × (p + 1 ≡ q)
Breaks spelt lawful good (f ∷ more) q p =
    (Lacks spelt lawful good × (GoesOn spelt lawful good f → ⊥) × (p ≡ q)) ⊎ (Whole spelt lawful good × (p + 1 ≡ q))

-- where a next field would begin after the fields, of which the first begins at q
abbrev pub next_start : List (List ℕ) → ℕ → ℕ
next_start [] q = q
next_start (f ∷ fs) q = next_start fs (q + (length f + 1))

-- the place p at which the fields, of which the first begins at q, depart from every lawful writing
pub record Missed {C : Type 0} (spelt : C → List (List ℕ)) (lawful : C → Type 0) (fs : List (List ℕ)) (q p : ℕ) : Type 0 where
  pub good : List (List ℕ)
  pub rest : List (List ℕ)
  pub parts : fs ≡ good ++ rest
  pub breaks : Breaks spelt lawful good rest (next_start good q) p

-- the fields are the writing of what was read; or they are not, from some place on
abbrev pub ReadBy : {C : Type 0} → (C → List (List ℕ)) → (C → Type 0) → List (List ℕ) → ℕ → Result C NotRead → Type 0
ReadBy spelt lawful fs q (Ok v) = lawful v × (fs ≡ spelt v)
ReadBy spelt lawful fs q (Err e) = Missed spelt lawful fs q e.place
