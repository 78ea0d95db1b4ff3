-- The figures of a series on a path come from the entries for the path's series.
use Rattle.std.proofs.Common.{◌≡◌, ℕ, Bool, true, false, cond, ◌&&◌, List, [], ◌∷◌, ℤ, pos, negsuc, filter, sym, refl, ap, ◌∙◌, subst}
use Rattle.std.proofs.lemmas.Bool.{and_from, and_parts, cond_both, eqb-true, true≢false}
use Rattle.book.specs.Evidence.{no_leg}
use Rattle.book.specs.Figures.{is_series}
use Rattle.book.specs.Records.{every, figures_of}
use Rattle.book.specs.declared.days.Day.{Day}
use Rattle.book.specs.declared.entries.Entry.{Entry}
use Rattle.book.specs.declared.figures.Figures.{Figures}
use Rattle.book.proofs.RecordedEvidence.{evidence}
use Rattle.runs.specs.Relations.{Relation}
use Rattle.runs.specs.PathEntries.{entries_on, on_path}

-- a filter after a wider one keeps what it keeps alone
kept_by_narrower : {X : Type 0} (wide narrow : X → Bool) → ((x : X) → narrow x ≡ true → wide x ≡ true) → (xs : List X)
    → filter narrow (filter wide xs) ≡ filter narrow xs
kept_by_narrower wide narrow wider [] = refl
kept_by_narrower wide narrow wider (x ∷ xs) =
    by (wide x) (narrow x) refl (wider x)
    ∙ ap (λ ys. cond (narrow x) (x ∷ ys) ys) (kept_by_narrower wide narrow wider xs)
  where
    by : (b c : Bool) → narrow x ≡ c → (c ≡ true → b ≡ true)
        → filter narrow (cond b (x ∷ filter wide xs) (filter wide xs)) ≡ cond c (x ∷ filter narrow (filter wide xs))
        (filter narrow (filter wide xs))
    by true c e h = ap (λ t. cond t (x ∷ filter narrow (filter wide xs)) (filter narrow (filter wide xs))) e
    by false true e h = absurd (true≢false (sym (h refl)))
    by false false e h = refl

series_on_path : (path : List ℕ) (s : ℕ) (z : ℤ) → on_path path (pos s) ≡ true → is_series s z ≡ true → on_path path z ≡ true
series_on_path path s (pos n) on is = ap (λ k. on_path path (pos k)) (eqb-true n s is) ∙ on
series_on_path path s (negsuc n) on is = absurd (true≢false (sym is))

-- other entries and legs enter nothing for a series of the path
pub path_figures : (d : Day) (path : List ℕ) (es : List Entry) (s w : ℕ) → on_path path (pos s) ≡ true
    → figures_of d (entries_on path es) s w ≡ figures_of d es s w
path_figures d path es s w on =
    (evidence d 0 es).own s w (entries_on path es)
    (kept_by_narrower
    (λ e. on_path path e.series && no_leg e.kind)
    (λ e. is_series s e.series && no_leg e.kind)
    (λ e own. let both = and_parts (is_series s e.series) (no_leg e.kind) own in and_from (on_path path e.series) (no_leg e.kind)
    (series_on_path path s e.series on both.0) both.1)
    es)

-- what relates the figures of these entries relates those of all entries
pub related_figures : (d : Day) (path : List ℕ) (es fs : List Entry) (s w : ℕ) (Rel : Relation Figures)
    → on_path path (pos s) ≡ true → Rel (figures_of d (entries_on path es) s w) (figures_of d (entries_on path fs) s w)
    → Rel (figures_of d es s w) (figures_of d fs s w)
related_figures d path es fs s w Rel on r =
    subst (λ (f : Figures). Rel f (figures_of d fs s w)) (path_figures d path es s w on)
    (subst (λ (g : Figures). Rel (figures_of d (entries_on path es) s w) g) (path_figures d path fs s w on) r)

-- the figures of a series on a path depend on nothing else
pub same_figures : (d : Day) (path : List ℕ) (es fs : List Entry) (s w : ℕ) → entries_on path es ≡ entries_on path fs
    → on_path path (pos s) ≡ true → figures_of d es s w ≡ figures_of d fs s w
same_figures d path es fs s w same on = related_figures d path es fs s w ◌≡◌ on (ap (λ xs. figures_of d xs s w) same)

-- what holds of every entry holds of every one for the path
pub every_on_path : (test : Entry → Bool) (path : List ℕ) (es : List Entry) → every test es ≡ true
    → every test (entries_on path es) ≡ true
every_on_path test path [] h = refl
every_on_path test path (e ∷ es) h =
    let both = and_parts (test e) (every test es) h in
    let rest = every_on_path test path es both.1 in
    cond_both (on_path path e.series && no_leg e.kind) (e ∷ entries_on path es) (entries_on path es) (λ xs. every test xs ≡ true)
    (λ stays. and_from (test e) (every test (entries_on path es)) both.0 rest)
    (λ goes. rest)
