-- What stands after a run, told by the calls taken.
use Rattle.std.proofs.Common.{◌≡◌, ℕ, Bool, List, [], ◌∷◌, ◌++◌, ℤ, sym, ap, ◌∙◌, subst, ⊎_elim}
use Rattle.std.proofs.lemmas.List.{append_assoc, append-nil}
use Rattle.std.proofs.lemmas.Bool.{cases_Bool, cond-false, cond-true}
use Rattle.book.specs.declared.days.Day.{Day}
use Rattle.calls.specs.Worlds.{World, is_taken, new_world, after_call}
use Rattle.runs.specs.Runs.{after_run, calls_taken}
use Rattle.calls.specs.declared.call.Call.{Call}
use Rattle.runs.specs.Told.{Told}
use Rattle.runs.proofs.OneCall.{told_call, told_new}
use Rattle.calls.proofs.Refusals.{refused_stays}

-- calls that follow others
told_more : (d : Day) (k ladders : ℕ) (lawful : ℕ → ℤ → Bool) (xs calls : List Call) (w : World) → Told d k xs w
    → Told d k (xs ++ calls_taken ladders lawful calls w) (after_run ladders lawful calls w)
told_more d k ladders lawful xs [] w t = subst (λ ys. Told d k ys w) (sym (append-nil xs)) t
told_more d k ladders lawful xs (c ∷ calls) w t =
    ⊎_elim
    (λ h. subst goal (append_assoc xs (c ∷ []) rest ∙ ap (λ ys. xs ++ ys)
    (sym (cond-true (is_taken ladders lawful c w) (c ∷ rest) rest h)))
    (told_more d k ladders lawful (xs ++ (c ∷ [])) calls then (told_call d k ladders lawful xs c w h t)))
    (λ h. subst goal (ap (λ ys. xs ++ ys) (sym (cond-false (is_taken ladders lawful c w) (c ∷ rest) rest h)))
    (told_more d k ladders lawful xs calls then (subst (Told d k xs) (sym (refused_stays ladders lawful c w h)) t)))
    (cases_Bool (is_taken ladders lawful c w))
  where
    then : World
    then = after_call ladders lawful c w

    rest : List Call
    rest = calls_taken ladders lawful calls then

    goal : List Call → Type 0
    goal ys = Told d k ys (after_run ladders lawful calls then)

-- a run from a new house and a new book
told_run : (d : Day) (k ladders : ℕ) (lawful : ℕ → ℤ → Bool) (calls : List Call)
    → Told d k (calls_taken ladders lawful calls (new_world d k)) (after_run ladders lawful calls (new_world d k))
told_run d k ladders lawful calls = told_more d k ladders lawful [] calls (new_world d k) (told_new d k)

-- and one whose beginning was new
pub told_from_new : (d : Day) (k ladders : ℕ) (lawful : ℕ → ℤ → Bool) (calls : List Call) (w v : World)
    → v ≡ after_run ladders lawful calls w → w ≡ new_world d k → Told d k (calls_taken ladders lawful calls w) v
told_from_new d k ladders lawful calls w v is new =
    subst (Told d k (calls_taken ladders lawful calls w)) (sym is)
    (subst (λ (u : World). Told d k (calls_taken ladders lawful calls u) (after_run ladders lawful calls u)) (sym new)
    (told_run d k ladders lawful calls))
