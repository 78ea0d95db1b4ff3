-- Places lie within their lines.
use Rattle.std.proofs.Common.{◌≡◌, ℕ, ◌+◌, ◌≤◌, List, [], ◌∷◌, ◌++◌, length, refl, ap, inl, inr, ⊎_elim, arith, length-append}
use Rattle.std.proofs.lemmas.Bool.{cases_lt}
use Rattle.lines.specs.Fields.{fields, trailed}
use Rattle.lines.specs.Places.{Breaks, Missed, next_start}
use Rattle.lines.specs.Spelled.{BriefCall, LinePlace, spelled}
use Rattle.lines.proofs.Cuts.{shape}

next_start_append : (a b : List (List ℕ)) (q : ℕ) → next_start (a ++ b) q ≡ next_start b (next_start a q)
next_start_append [] b q = refl
next_start_append (f ∷ a) b q = next_start_append a b (q + (length f + 1))

next_start_ge : (fs : List (List ℕ)) (q : ℕ) → q ≤ next_start fs q
next_start_ge [] q = omega arith
next_start_ge (f ∷ fs) q = omega (arith, next_start_ge fs (q + (length f + 1)))

next_start_trailed : (f : List ℕ) (fs : List (List ℕ)) (q : ℕ) → next_start (f ∷ fs) q ≡ q + (length (f ++ trailed fs) + 1)
next_start_trailed f [] q = omega (arith, length-append f [])
next_start_trailed f (g ∷ gs) q =
    omega (arith, length-append f (32 ∷ (g ++ trailed gs)), next_start_trailed g gs (q + (length f + 1)))

-- a next field would begin behind a space at the line's end
pub fields_end : (line : List ℕ) → next_start (fields line) 0 ≡ length line + 1
fields_end line =
    let s = shape line in
    omega (arith, ap (λ fs. next_start fs 0) s.2, next_start_trailed s.0 s.1 0, ap length s.3)

-- a place comes before the end of the fields
breaks_within : {C : Type 0} (spelt : C → List (List ℕ)) (lawful : C → Type 0) (good rest : List (List ℕ)) (q p : ℕ) → Breaks spelt lawful good rest q p → p + 1 ≤ next_start rest q
breaks_within spelt lawful good [] q p b = omega (arith, b.1)
breaks_within spelt lawful good (f ∷ more) q p (inl b) = omega (arith, b.2, next_start_ge more (q + (length f + 1)))
breaks_within spelt lawful good (f ∷ more) q p (inr b) = omega (arith, b.1, next_start_ge more (q + (length f + 1)))

missed_within : {C : Type 0} (spelt : C → List (List ℕ)) (lawful : C → Type 0) (fs : List (List ℕ)) (q p : ℕ) → Missed spelt lawful fs q p → p + 1 ≤ next_start fs q
missed_within spelt lawful fs q p m =
    omega (
      arith,
      ap (λ gs. next_start gs q) m.parts,
      next_start_append m.good m.rest q,
      breaks_within spelt lawful m.good m.rest (next_start m.good q) p m.breaks,
    )

pub place_within : (line : List ℕ) (p : ℕ) → LinePlace line p → p ≤ length line
place_within line p a =
    ⊎_elim (λ h. omega (arith, a.long h))
    (λ h. omega (arith, missed_within spelled BriefCall (fields line) 0 p (a.short h), fields_end line))
    (cases_lt 200 (length line))
