-- A row gone through place by place.
use Rattle.std.proofs.Common.{◌≡◌, ℕ, zero, suc, ◌+◌, ◌≤◌, Bool, false, ◌||◌, List, [], ◌∷◌, length, drop, get_or, Some, None, Option, refl, ap, ◌∙◌, arith}
use Rattle.std.specs.List.{list_any}
use Rattle.std.proofs.lemmas.List.{drop_all}
use Rattle.rows.specs.Codes.{at}
use Rattle.rows.specs.declared.places.Place.{Place}
use Rattle.house.specs.Answers.{first_found, or_later, refers, some_refers}
use Rattle.house.specs.declared.answers.Settlement.{Settlement}
use Rattle.house.specs.declared.answers.TimedPrice.{TimedPrice}

-- ---- what is left of a row at a position

pub rest_some : (ps : List Place) (j : ℕ) (p : Place) → at ps j ≡ Some p → drop j ps ≡ p ∷ drop (j + 1) ps
rest_some [] j p h = grind arith
rest_some (q ∷ ps) zero p h = let same : q ≡ p = grind arith in ap (λ x. x ∷ ps) same
rest_some (q ∷ ps) (suc j) p h = let next : suc (j + 1) ≡ suc j + 1 = omega arith in rest_some ps j p h ∙ ap (λ k. p ∷ drop k (q ∷ ps)) next

pub rest_none : (ps : List Place) (j : ℕ) → at ps j ≡ None → drop j ps ≡ []
rest_none [] zero h = refl
rest_none [] (suc j) h = refl
rest_none (q ∷ ps) zero h = grind arith
rest_none (q ∷ ps) (suc j) h = rest_none ps j h

-- ---- the first place that finds a price

module _ (find : Place → Option TimedPrice) (ps : List Place) (j : ℕ) (whole : Option Settlement) (so_far : whole ≡ first_found find (j + 1) (drop j ps)) where
  here : (p : Place) → at ps j ≡ Some p → whole ≡ or_later (find p) p.step (j + 1) (first_found find (j + 1 + 1) (drop (j + 1) ps))
  here p h = so_far ∙ ap (first_found find (j + 1)) (rest_some ps j p h)

  pub found_here : (p : Place) (v : TimedPrice) → at ps j ≡ Some p → find p ≡ Some v → whole ≡ Some (record { price = v.price; step = p.step; place = j + 1; time = v.time })
  found_here p v h is = here p h ∙ ap (λ o. or_later o p.step (j + 1) (first_found find (j + 1 + 1) (drop (j + 1) ps))) is

  pub found_later : (p : Place) → at ps j ≡ Some p → find p ≡ None → whole ≡ first_found find (j + 1 + 1) (drop (j + 1) ps)
  found_later p h is = here p h ∙ ap (λ o. or_later o p.step (j + 1) (first_found find (j + 1 + 1) (drop (j + 1) ps))) is

  pub found_nowhere : at ps j ≡ None → whole ≡ None
  found_nowhere h = so_far ∙ ap (first_found find (j + 1)) (rest_none ps j h)

  pub found_not : length ps ≤ j → whole ≡ None
  found_not h = so_far ∙ ap (first_found find (j + 1)) (drop_all j ps h)

-- ---- whether a step uses the reference

abbrev pub refers_if : Option Place → Bool
refers_if None = false
refers_if (Some p) = refers p.step

-- the places as they are handed out, with nothing past the row's end
pub any_refers : (os : List (Option Place)) (ps : List Place) → ((k : ℕ) → get_or os k None ≡ at ps k) → length ps ≤ length os → list_any refers_if os ≡ some_refers ps
any_refers [] [] told h = refl
any_refers [] (p ∷ ps) told h = absurd (omega arith)
any_refers (o ∷ os) [] told h = ap (λ x. refers_if x || list_any refers_if os) (told 0) ∙ any_refers os [] (λ k. told (suc k)) (omega arith)
any_refers (o ∷ os) (p ∷ ps) told h =
    ap (λ x. refers_if x || list_any refers_if os) (told 0) ∙ ap (λ b. refers p.step || b) (any_refers os ps (λ k. told (suc k)) (omega arith))
