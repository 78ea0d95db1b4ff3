-- Places at which fields depart from a grammar, from part to whole.
use Rattle.std.proofs.Common.{◌≡◌, ℕ, ◌+◌, List, [], ◌∷◌, ◌++◌, length, sym, refl, ap, ◌∙◌, inl, inr}
use Rattle.lines.specs.Places.{GoesOn, Lacks, Whole, Breaks, next_start, Missed}

-- ---- a place in one grammar is a place in another, where the same fields go on

module _ {C D : Type 0} (cs : C → List (List ℕ)) (cl : C → Type 0) (ds : D → List (List ℕ)) (dl : D → Type 0) where
  pub breaks_to : (good good' : List (List ℕ)) → ((f : List ℕ) → GoesOn cs cl good f → GoesOn ds dl good' f) → ((f : List ℕ) → GoesOn ds dl good' f → GoesOn cs cl good f) → (Whole cs cl good → Whole ds dl good') → (rest : List (List ℕ)) (q p : ℕ) → Breaks cs cl good rest q p → Breaks ds dl good' rest q p
  breaks_to good good' to from whole [] q p b = (record { field = b.0.field; goes = to b.0.field b.0.goes }, b.1)
  breaks_to good good' to from whole (f ∷ more) q p (inl b) =
      inl (record { field = b.0.field; goes = to b.0.field b.0.goes }, (λ g. b.1 (from f g)), b.2)
  breaks_to good good' to from whole (f ∷ more) q p (inr b) = inr (whole b.0, b.1)

-- ---- one value and the values after it

module _ {T R : Type 0} (ts : T → List ℕ) (tl : T → Type 0) (rs : R → List (List ℕ)) (rl : R → Type 0) where
  abbrev pub both_spelt : T × R → List (List ℕ)
  both_spelt v = ts v.0 ∷ rs v.1

  abbrev pub both_lawful : T × R → Type 0
  both_lawful v = tl v.0 × rl v.1

  -- the first value stands before what goes on
  goes_more : (t : T) → tl t → (good : List (List ℕ)) (f : List ℕ) → GoesOn rs rl good f → GoesOn both_spelt both_lawful (ts t ∷ good) f
  goes_more t h good f g = record { meant = (t, g.meant); holds = (h, g.holds); more = g.more; writes = ap (λ xs. ts t ∷ xs) g.writes }

  goes_less : (t : T) (good : List (List ℕ)) (f : List ℕ) → GoesOn both_spelt both_lawful (ts t ∷ good) f → GoesOn rs rl good f
  goes_less t good f g =
      let e : ts g.meant.0 ∷ rs g.meant.1 ≡ ts t ∷ (good ++ (f ∷ g.more)) = g.writes in
      let w : rs g.meant.1 ≡ good ++ (f ∷ g.more) = cc in
      record { meant = g.meant.1; holds = g.holds.1; more = g.more; writes = w }

  whole_more : (t : T) → tl t → (good : List (List ℕ)) → Whole rs rl good → Whole both_spelt both_lawful (ts t ∷ good)
  whole_more t h good w = record { meant = (t, w.meant); holds = (h, w.holds); writes = ap (λ xs. ts t ∷ xs) w.writes }

  -- the first value is right, and a later one is not
  pub missed_more : (t : T) → tl t → (f : List ℕ) → f ≡ ts t → (all fs : List (List ℕ)) → all ≡ f ∷ fs → (q q' p : ℕ) → q' ≡ q + (length f + 1) → Missed rs rl fs q' p → Missed both_spelt both_lawful all q p
  missed_more t h f ef all fs e q q' p eq m =
      let b : Breaks rs rl m.good m.rest (next_start m.good (q + (length (ts t) + 1))) p = rw (ap (λ g. next_start m.good (q + (length g + 1))) (sym ef), ap (next_start m.good) (sym eq)) m.breaks in
      record {
        good = ts t ∷ m.good;
        rest = m.rest;
        parts = e ∙ ap (λ g. g ∷ fs) ef ∙ ap (λ xs. ts t ∷ xs) m.parts;
        breaks =
            breaks_to rs rl both_spelt both_lawful m.good (ts t ∷ m.good) (goes_more t h m.good) (goes_less t m.good)
            (whole_more t h m.good) m.rest (next_start m.good (q + (length (ts t) + 1))) p b;
      }

  -- a field begins lawful values
  pub lacks_first : (t : T) → tl t → (r : R) → rl r → Lacks both_spelt both_lawful []
  lacks_first t h r k =
      record { field = ts t; goes = record { meant = (t, r); holds = (h, k); more = rs r; writes = refl } }

  -- no field is left, though one is lacking
  pub missed_none : (t : T) → tl t → (r : R) → rl r → (fs : List (List ℕ)) → fs ≡ [] → (q p : ℕ) → p + 1 ≡ q → Missed both_spelt both_lawful fs q p
  missed_none t h r k fs e q p at = record { good = []; rest = []; parts = e; breaks = (lacks_first t h r k, at) }

  -- the first field is the writing of no value
  pub missed_first : (t : T) → tl t → (r : R) → rl r → (f : List ℕ) (all fs : List (List ℕ)) → all ≡ f ∷ fs → (q p : ℕ) → p ≡ q → ((v : T) → tl v → f ≡ ts v → ⊥) → Missed both_spelt both_lawful all q p
  missed_first t h r k f all fs e q p at none =
      record {
        good = [];
        rest = f ∷ fs;
        parts = e;
        breaks =
            inl (
              lacks_first t h r k,
              (λ g. let w : ts g.meant.0 ∷ rs g.meant.1 ≡ f ∷ g.more = g.writes in
                  let v : f ≡ ts g.meant.0 = cc in
                  none g.meant.0 g.holds.0 v),
              at,
            );
      }

-- ---- two grammars with the same writings

module _ {C D : Type 0} (cs : C → List (List ℕ)) (cl : C → Type 0) (ds : D → List (List ℕ)) (dl : D → Type 0) where
  -- each writing of the one is a writing of the other
  abbrev pub Into : Type 0
  Into = (c : C) → cl c → (d : D) × dl d × (ds d ≡ cs c)

pub goes_into : {C D : Type 0} (cs : C → List (List ℕ)) (cl : C → Type 0) (ds : D → List (List ℕ)) (dl : D → Type 0) → Into cs cl ds dl → (good : List (List ℕ)) (f : List ℕ) → GoesOn cs cl good f → GoesOn ds dl good f
goes_into cs cl ds dl to good f g =
    let d = to g.meant g.holds in
    record { meant = d.0; holds = d.1; more = g.more; writes = d.2 ∙ g.writes }

module _ {C D : Type 0} (cs : C → List (List ℕ)) (cl : C → Type 0) (ds : D → List (List ℕ)) (dl : D → Type 0) (to : Into cs cl ds dl) (from : Into ds dl cs cl) where
  whole_into : (good : List (List ℕ)) → Whole cs cl good → Whole ds dl good
  whole_into good w = let d = to w.meant w.holds in record { meant = d.0; holds = d.1; writes = d.2 ∙ w.writes }

  -- and then they miss at the same places
  pub missed_into : (fs : List (List ℕ)) (q p : ℕ) → Missed cs cl fs q p → Missed ds dl fs q p
  missed_into fs q p m =
      record {
        good = m.good;
        rest = m.rest;
        parts = m.parts;
        breaks =
            breaks_to cs cl ds dl m.good m.good (goes_into cs cl ds dl to m.good) (goes_into ds dl cs cl from m.good)
            (whole_into m.good) m.rest (next_start m.good q) p m.breaks;
      }
