-- Cutting a line at its spaces, and putting it together again.
use Rattle.std.proofs.Common.{◌≡◌, ℕ, zero, suc, ◌+◌, ◌-◌, ◌<◌, ◌≤◌, Bool, true, false, cond, not, eqb, ◌⊎◌, List, [], ◌∷◌, ◌++◌, length, get_or, take, drop, sym, refl, ap, ◌∙◌, inl, inr, ⊎_elim, add-one, arith, drop-cons, eq-eqb, ne_eqb, eqb-true}
use Rattle.std.specs.List.{AllByRecursion, position_or_len}
use Rattle.std.proofs.lemmas.Bool.{true≢false}
use Rattle.std.proofs.lemmas.Bool.Decides.{leb_tells}
use Rattle.std.proofs.lemmas.List.Sums.{fails_before_first, passes_at_first, prefix_len-le-length}
use Rattle.std.proofs.lemmas.List.{drop-drop, length-drop}
use Rattle.lines.specs.Fields.{spaced, trailed, onto, fields, fields_after, left_at}

-- a field's end: no space before it, and a space or the line's end at it
pub field_cut : (xs : List ℕ) (k : ℕ) → k ≤ length xs → ((j : ℕ) → j < k → get_or xs j 0 ≡ 32 → ⊥) → (k ≡ length xs) ⊎ (get_or xs k 0 ≡ 32) → fields xs ≡ take k xs ∷ fields_after (drop k xs)
field_cut [] zero h clean end = refl
field_cut [] (suc k) h clean end = absurd (omega arith)
field_cut (x ∷ xs) zero h clean (inl e) = absurd (omega arith)
field_cut (x ∷ xs) zero h clean (inr e) = rw (eq-eqb x 32 e) refl
field_cut (x ∷ xs) (suc k) h clean end =
    rw (ne_eqb x 32 (clean 0 (omega arith)))
    (ap (onto x)
    (field_cut xs k (omega arith) (λ j l. clean (suc j) (omega arith)) (⊎_elim (λ e. inl (omega arith)) (λ e. inr e) end)))

-- a field from the start ends at the first space behind it, or with the line
pub field_cut_at : (line : List ℕ) (start p : ℕ) → start ≤ length line → p ≡ position_or_len (λ b. eqb b 32) (drop start line) → (start + p ≤ length line) × (fields (drop start line) ≡ take (start + p - start) (drop start line) ∷ left_at line (start + p))
field_cut_at line start p h is =
    let xs = drop start line in
    let test : ℕ → Bool = λ b. eqb b 32 in
    let long : length xs ≡ length line - start = length-drop start line in
    let q = position_or_len test xs in
    let within : q ≤ length xs = prefix_len-le-length (λ b. not (test b)) xs in
    let same : start + p - start ≡ q = omega arith in
    let on : drop q xs ≡ drop (start + p) line = drop-drop q start line ∙ ap (λ n. drop n line) (omega arith) in (
      omega arith,
      field_cut xs q within (λ j l e. true≢false (sym (eq-eqb (get_or xs j 0) 32 e) ∙ fails_before_first test xs j 0 l)) (at_end xs q within (λ l. eqb-true (get_or xs q 0) 32 (passes_at_first test xs 0 l)))
          ∙ ap (λ ys. take q xs ∷ fields_after ys) on
          ∙ ap (λ n. take n xs ∷ left_at line (start + p)) (sym same),
    )
  where
    at_end : (ys : List ℕ) (n : ℕ) → n ≤ length ys → (n < length ys → get_or ys n 0 ≡ 32) → (n ≡ length ys) ⊎ (get_or ys n 0 ≡ 32)
    at_end ys n le space = ⊎_elim (λ p. inl (omega (arith, p.1))) (λ p. inr (space p.1)) (leb_tells (length ys) n)

-- what follows the space at a field's end
pub left_cut : (line : List ℕ) (at : ℕ) → at < length line → left_at line at ≡ fields (drop (at + 1) line)
left_cut line at h = ap fields_after (drop-cons line at 0 h) ∙ ap (λ n. fields (drop n line)) (sym (add-one at))

-- no space is in the field
abbrev pub Spaceless : List ℕ → Type 0
Spaceless f = AllByRecursion (λ b. b ≡ 32 → ⊥) f

abbrev pub AllSpaceless : List (List ℕ) → Type 0
AllSpaceless fs = AllByRecursion Spaceless fs

pub fields_spaced : (f : List ℕ) (fs : List (List ℕ)) → Spaceless f → AllSpaceless fs → fields (f ++ trailed fs) ≡ f ∷ fs
fields_spaced [] [] h hs = refl
fields_spaced [] (g ∷ gs) h hs = ap (λ xs. [] ∷ xs) (fields_spaced g gs hs.0 hs.1)
fields_spaced (b ∷ f) fs h hs = rw (ne_eqb b 32 h.0) (ap (onto b) (fields_spaced f fs h.1 hs))

-- ---- a line put together again

shape_at : (b : ℕ) (bs f : List ℕ) (fs : List (List ℕ)) → fields bs ≡ f ∷ fs → f ++ trailed fs ≡ bs → (t : Bool) → eqb b 32 ≡ t → (g : List ℕ) × (gs : List (List ℕ)) × (cond t ([] ∷ fields bs) (onto b (fields bs)) ≡ g ∷ gs) × (g ++ trailed gs ≡ b ∷ bs)
shape_at b bs f fs e w true t =
    ([], fields bs, refl, ap trailed e ∙ ap (λ xs. 32 ∷ xs) w ∙ ap (λ x. x ∷ bs) (sym (eqb-true b 32 t)))
shape_at b bs f fs e w false t = (b ∷ f, fs, ap (onto b) e, ap (λ xs. b ∷ xs) w)

pub shape : (bs : List ℕ) → (f : List ℕ) × (fs : List (List ℕ)) × (fields bs ≡ f ∷ fs) × (f ++ trailed fs ≡ bs)
shape [] = ([], [], refl, refl)
shape (b ∷ bs) = let s = shape bs in shape_at b bs s.0 s.1 s.2 s.3 (eqb b 32) refl

pub joined : (line f : List ℕ) (fs : List (List ℕ)) → fields line ≡ f ∷ fs → line ≡ f ++ trailed fs
joined line f fs e =
    let s = shape line in
    sym s.3 ∙ ap spaced (sym s.2 ∙ e)

-- before the line's end some field is left
pub some_left : (line : List ℕ) (at : ℕ) → at < length line → left_at line at ≡ [] → ⊥
some_left line at h e =
    let s = shape (drop (at + 1) line) in
    omega (arith, ap length (sym s.2 ∙ sym (left_cut line at h) ∙ e))
