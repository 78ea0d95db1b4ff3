-- An entry goes through the windows of its series, one after the other.
use Rattle.std.proofs.Common.{◌≡◌, ℕ, ◌+◌, ◌<◌, ◌≤◌, ◌≢◌, Bool, true, false, cond, ◌&&◌, eqb, ltb, List, get_or, ℤ, pos, negsuc, refl, sym, ap, ◌∙◌, ⊎_elim, arith}
use Rattle.std.proofs.lemmas.Bool.{and_left, cases_Bool, cases_eq, cond-true, cond-false, cond_both, eq-eqb, eqb-true, ne_eqb, true≢false}
use Rattle.std.proofs.lemmas.Bool.Decides.{nat_tests}
use Rattle.std.proofs.lemmas.List.{get_or_default}
use Rattle.std.specs.Int.{FitsUnsignedBits}
use Rattle.book.specs.Figures.{concerns, entered_if, is_series, with_entry, entered_sound, roomy, sound}
use Rattle.book.specs.Ledgers.{in_range}
use Rattle.book.specs.Windows.{edges, holds, nothing, windows}
use Rattle.book.specs.declared.days.Day.{Day}
use Rattle.book.specs.declared.entries.Entry.{Entry}
use Rattle.book.specs.declared.figures.Figures.{Figures}
use Rattle.board.proofs.Places.{range_bounds}

-- figures f, which are g after the windows before m and h after window m, where they enter as every window has them enter
pub one_window_more : (enter at : Figures → Figures) (r a : Bool) (w m : ℕ) (f g h : Figures) → (w ≡ m → at g ≡ enter g) → g ≡ cond (r && (a && ltb w m)) (enter f) f → h ≡ cond (r && (a && eqb w m)) (at g) g → h ≡ cond (r && (a && ltb w (m + 1))) (enter f) f
one_window_more enter at false a w m f g h same so_far step = step ∙ so_far
one_window_more enter at true false w m f g h same so_far step = step ∙ so_far
one_window_more enter at true true w m f g h same so_far step = grind (arith, nat_tests)

-- an entry for another series leaves figures as they are
another_series : (s n : ℕ) (x : ℤ × ℤ) (f : Figures) (e : Entry) → e.series ≡ pos n → s ≢ n → entered_if s x f e ≡ f
another_series s n x f e is other =
    cond-false (concerns s x e && (sound e && roomy f)) (with_entry e.kind e.stamp f) f
    (and_left (concerns s x e) (sound e && roomy f)
    (and_left (is_series s e.series) (holds x e.stamp) (ap (is_series s) is ∙ ne_eqb n s (λ q. other (sym q)))))

-- an entry of the series that is within the limits of any day enters as a sound one does
own_series : (s n : ℕ) (x : ℤ × ℤ) (f : Figures) (e : Entry) → sound e ≡ true → e.series ≡ pos n → s ≡ n → entered_if s x f e ≡ entered_sound x f e
own_series s n x f e within is same =
    ap (λ b. cond ((b && holds x e.stamp) && (sound e && roomy f)) (with_entry e.kind e.stamp f) f) (ap (is_series s) is ∙ eq-eqb n s (sym same))
    ∙ ap (λ b. cond (holds x e.stamp && (b && roomy f)) (with_entry e.kind e.stamp f) f) within

-- where the records of the entry's series have it as a sound one, every record is as it is to be
pub all_series : (s w n : ℕ) (x : ℤ × ℤ) (e e' : Entry) (f g : Figures) → e' ≡ e → sound e ≡ true → e.series ≡ pos n → g ≡ cond (in_range s w && eqb s n) (entered_sound x f e') f → g ≡ cond (in_range s w) (entered_if s x f e) f
all_series s w n x e e' f g whole within is with_entry =
    with_entry
    ∙ cond_both (in_range s w) (entered_if s x f e) f (λ k. cond (in_range s w && eqb s n) (entered_sound x f e') f ≡ k)
    (λ r. ap (λ b. cond (b && eqb s n) (entered_sound x f e') f) r ∙ inside)
    (λ r. cond-false (in_range s w && eqb s n) (entered_sound x f e') f (and_left (in_range s w) (eqb s n) r))
  where
    inside : cond (eqb s n) (entered_sound x f e') f ≡ entered_if s x f e
    inside =
        ⊎_elim
        (λ p. cond-true (eqb s n) (entered_sound x f e') f (eq-eqb s n p) ∙ ap (entered_sound x f) whole ∙ sym (own_series s n x f e within is p))
        (λ p. cond-false (eqb s n) (entered_sound x f e') f (ne_eqb s n p) ∙ sym (another_series s n x f e is p))
        (cases_eq s n)

named_fits : (s : ℕ) (z : ℤ) → is_series s z ≡ true → s ≤ 31 → FitsUnsignedBits 8 z
named_fits s (pos n) named few = let same = eqb-true n s named in omega arith
named_fits s (negsuc n) named few = absurd (true≢false (sym named))

-- an entry for a number that names no series enters nowhere
pub no_series : (s w : ℕ) (x : ℤ × ℤ) (f : Figures) (e : Entry) → (FitsUnsignedBits 8 e.series → ⊥) → f ≡ cond (in_range s w) (entered_if s x f e) f
no_series s w x f e none =
    cond_both (in_range s w) (entered_if s x f e) f (λ k. f ≡ k)
    (λ r. sym (cond-false (concerns s x e && (sound e && roomy f)) (with_entry e.kind e.stamp f) f
    (and_left (concerns s x e) (sound e && roomy f) (and_left (is_series s e.series) (holds x e.stamp)
    (⊎_elim (λ named. absurd (none (named_fits s e.series named (range_bounds s w r).0))) (λ b. b) (cases_Bool (is_series s e.series)))))))
    (λ r. refl)

-- what is read off the list of the day's windows are the edges
pub listed_edges : (d : Day) (xs : List (ℤ × ℤ)) (i w m : ℕ) (z : ℤ × ℤ) → xs ≡ windows d → i ≡ m → w ≡ m → m ≤ 13 → get_or xs i z ≡ edges d w
listed_edges d xs i w m z is at same few =
    let inside : w < 14 = omega arith in
    ap (λ ys. get_or ys i z) is ∙ ap (λ k. get_or (windows d) k z) (at ∙ sym same) ∙ get_or_default (windows d) w z nothing inside
