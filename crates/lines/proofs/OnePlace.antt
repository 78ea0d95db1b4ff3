-- A place at which fields depart from a grammar of which no writing begins another.
use Rattle.std.proofs.Common.{◌≡◌, ℕ, List, [], ◌∷◌, ◌++◌, sym, refl, ap, ◌∙◌, inl, inr, append_assoc, append-nil, arith}
use Rattle.lines.specs.Places.{GoesOn, Whole, Breaks, next_start, Missed}

-- of two ways to cut a list, the cuts are the same, or one comes first
data Cuts (a b c d : List (List ℕ)) : Type 0 where
  same : a ≡ c → b ≡ d → Cuts a b c d
  sooner : (f : List ℕ) (m : List (List ℕ)) → c ≡ a ++ (f ∷ m) → b ≡ f ∷ (m ++ d) → Cuts a b c d
  later : (f : List ℕ) (m : List (List ℕ)) → a ≡ c ++ (f ∷ m) → d ≡ f ∷ (m ++ b) → Cuts a b c d

cuts_more : (x y : List ℕ) (a b c d : List (List ℕ)) → x ≡ y → Cuts a b c d → Cuts (x ∷ a) b (y ∷ c) d
cuts_more x y a b c d e (same p q) = same (cc) q
cuts_more x y a b c d e (sooner f m p q) = sooner f m (cc) q
cuts_more x y a b c d e (later f m p q) = later f m (cc) q

cuts : (a b c d : List (List ℕ)) → a ++ b ≡ c ++ d → Cuts a b c d
cuts [] b [] d e = same refl e
cuts [] b (y ∷ c) d e = sooner y c refl e
cuts (x ∷ a) b [] d e = later x a refl (sym e)
cuts (x ∷ a) b (y ∷ c) d e =
    let w : x ∷ (a ++ b) ≡ y ∷ (c ++ d) = e in
    let h : x ≡ y = cc in
    let t : a ++ b ≡ c ++ d = cc in
    cuts_more x y a b c d h (cuts a b c d t)

abbrev pub FrontFree : {C : Type 0} → (C → List (List ℕ)) → (C → Type 0) → Type 0
FrontFree {C = C} spelt lawful =
    (c d : C) → lawful c → lawful d → (f : List ℕ) (more : List (List ℕ)) → spelt c ≡ spelt d ++ (f ∷ more) → ⊥

module _ {C : Type 0} (spelt : C → List (List ℕ)) (lawful : C → Type 0) (free : FrontFree spelt lawful) where
  whole_goes : (good : List (List ℕ)) (f : List ℕ) → Whole spelt lawful good → GoesOn spelt lawful good f → ⊥
  whole_goes good f w g =
      free g.meant w.meant g.holds w.holds f g.more (g.writes ∙ ap (λ xs. xs ++ (f ∷ g.more)) (sym w.writes))

  refused_at : (good rest fs : List (List ℕ)) (q p : ℕ) → fs ≡ good ++ rest → Breaks spelt lawful good rest q p → (c : C) → lawful c → fs ≡ spelt c → ⊥
  refused_at good [] fs q p e b c h w =
      whole_goes good b.0.field (record { meant = c; holds = h; writes = sym w ∙ e ∙ append-nil good }) b.0.goes
  refused_at good (f ∷ more) fs q p e (inl b) c h w = b.1 (record { meant = c; holds = h; more = more; writes = sym w ∙ e })
  refused_at good (f ∷ more) fs q p e (inr b) c h w =
      whole_goes good f b.0 (record { meant = c; holds = h; more = more; writes = sym w ∙ e })

  -- fields that are missed are the writing of nothing lawful
  pub refused : (fs : List (List ℕ)) (q p : ℕ) → Missed spelt lawful fs q p → (c : C) → lawful c → fs ≡ spelt c → ⊥
  refused fs q p m = refused_at m.good m.rest fs (next_start m.good q) p m.parts m.breaks

  one_at : (good rest : List (List ℕ)) (q p p' : ℕ) → Breaks spelt lawful good rest q p → Breaks spelt lawful good rest q p' → p ≡ p'
  one_at good [] q p p' b b' = omega (arith, b.1, b'.1)
  one_at good (f ∷ more) q p p' (inl b) (inl b') = omega (arith, b.2, b'.2)
  one_at good (f ∷ more) q p p' (inl b) (inr b') = absurd (whole_goes good b.0.field b'.0 b.0.goes)
  one_at good (f ∷ more) q p p' (inr b) (inl b') = absurd (whole_goes good b'.0.field b.0 b'.0.goes)
  one_at good (f ∷ more) q p p' (inr b) (inr b') = omega (arith, b.1, b'.1)

  begun_goes : (good : List (List ℕ)) (g : List ℕ) → GoesOn spelt lawful good g → (front : List (List ℕ)) (f : List ℕ) (m : List (List ℕ)) → good ≡ front ++ (f ∷ m) → GoesOn spelt lawful front f
  begun_goes good g h front f m e =
      record {
        meant = h.meant;
        holds = h.holds;
        more = m ++ (g ∷ h.more);
        writes = h.writes ∙ ap (λ xs. xs ++ (g ∷ h.more)) e ∙ append_assoc front (f ∷ m) (g ∷ h.more);
      }

  -- what is lawful and begins with a front that breaks goes on after it
  begun : (good rest : List (List ℕ)) (q p : ℕ) → Breaks spelt lawful good rest q p → (front : List (List ℕ)) (f : List ℕ) (m : List (List ℕ)) → good ≡ front ++ (f ∷ m) → GoesOn spelt lawful front f
  begun good [] q p b front f m e = begun_goes good b.0.field b.0.goes front f m e
  begun good (g ∷ more) q p (inl b) front f m e = begun_goes good b.0.field b.0.goes front f m e
  begun good (g ∷ more) q p (inr b) front f m e =
      record { meant = b.0.meant; holds = b.0.holds; more = m; writes = b.0.writes ∙ e }

  -- a front breaks at the field after it, so no longer front is good
  no_later : (good rest : List (List ℕ)) (q p : ℕ) → Breaks spelt lawful good rest q p → (f : List ℕ) (more : List (List ℕ)) → rest ≡ f ∷ more → GoesOn spelt lawful good f → ⊥
  no_later good [] q p b f more e g = let z : ◌≡◌ {A = ℕ} 0 1 = cc in omega arith
  no_later good (h ∷ rest) q p (inl b) f more e g =
      let w : f ≡ h = cc in b.1 (rw w at g)
  no_later good (h ∷ rest) q p (inr b) f more e g = whole_goes good f b.0 g

  one_cut : (a b c d : List (List ℕ)) (q p p' : ℕ) → Cuts a b c d → Breaks spelt lawful a b (next_start a q) p → Breaks spelt lawful c d (next_start c q) p' → p ≡ p'
  one_cut a b c d q p p' (same e w) x y =
      one_at c d (next_start c q) p p' (rw (sym e, sym w) x) y
  one_cut a b c d q p p' (sooner f m e w) x y =
      absurd (no_later a b (next_start a q) p x f (m ++ d) w (begun c d (next_start c q) p' y a f m e))
  one_cut a b c d q p p' (later f m e w) x y =
      absurd (no_later c d (next_start c q) p' y f (m ++ b) w (begun a b (next_start a q) p x c f m e))

  -- there is one place only
  pub one_place : (fs : List (List ℕ)) (q p p' : ℕ) → Missed spelt lawful fs q p → Missed spelt lawful fs q p' → p ≡ p'
  one_place fs q p p' m n =
      one_cut m.good m.rest n.good n.rest q p p' (cuts m.good m.rest n.good n.rest (sym m.parts ∙ n.parts))
      m.breaks
      n.breaks
