-- What an allowed entry keeps, and the series and windows that no entry is for.
use Rattle.std.proofs.Common.{◌≡◌, ℕ, zero, suc, ◌<◌, true, false, ◌&&◌, leb, ℤ, pos, negsuc, ◌≤ℤ◌, refl, ap, ◌∙◌, ⊎_elim, arith}
use lib.Signed.{le_z, lt_z}
use Rattle.std.proofs.lemmas.List.{get_or_past}
use Rattle.std.proofs.lemmas.Int.{ints}
use Rattle.std.proofs.lemmas.Bool.{and_parts, and_from, and_left, and_right, and_cases, cond-false, leb-true, leb-false, ne_eqb}
use Rattle.book.specs.Days.{is_lawful_day}
use Rattle.book.specs.Entries.{allowed, kind_lawful}
use Rattle.book.specs.Figures.{concerns, is_series, with_entry, stamp_small}
use Rattle.book.specs.Ledgers.{entered, in_range}
use Rattle.book.specs.Windows.{edges, holds, nothing, windows}
use Rattle.book.specs.declared.days.Day.{Day}
use Rattle.book.specs.declared.entries.Entry.{Entry}
use Rattle.book.specs.declared.figures.Figures.{Figures}
use Rattle.book.specs.Orders.{le_from, le_test}

pub allowed_kind : (d : Day) (e : Entry) → allowed d e ≡ true → kind_lawful e.kind ≡ true
allowed_kind d e h =
    (and_parts ((le_z (pos 0) e.series && le_z e.series (pos 31)) && holds (d.night, d.close) e.stamp) (kind_lawful e.kind) h).1

allowed_place : (d : Day) (e : Entry) → allowed d e ≡ true → ((le_z (pos 0) e.series && le_z e.series (pos 31)) ≡ true) × (holds (d.night, d.close) e.stamp ≡ true)
allowed_place d e h =
    and_parts (le_z (pos 0) e.series && le_z e.series (pos 31)) (holds (d.night, d.close) e.stamp)
    (and_parts ((le_z (pos 0) e.series && le_z e.series (pos 31)) && holds (d.night, d.close) e.stamp) (kind_lawful e.kind) h).0

-- a lawful day begins at second 0 or later and ends at second 172,799 or earlier
day_ends : (d : Day) → is_lawful_day d ≡ true → (pos 0 ≤ℤ d.night) × (d.close ≤ℤ pos 172799)
day_ends d h =
    let night = le_z (pos 0) d.night && le_z d.night (pos 86399) in
    let openings = le_z (pos 86400) d.opening && le_z d.opening d.afternoon in
    let close = lt_z d.afternoon d.close && le_z d.close (pos 172799) in
    let cut = lt_z d.opening d.cut && lt_z d.cut d.close in
    let both = and_parts (night && openings) (close && cut) h in
    let first = (and_parts (le_z (pos 0) d.night) (le_z d.night (pos 86399)) (and_parts night openings both.0).0).0 in
    let last = (and_parts (lt_z d.afternoon d.close) (le_z d.close (pos 172799)) (and_parts close cut both.1).0).1 in
    (le_from (pos 0) d.night first, le_from d.close (pos 172799) last)

pub allowed_stamp : (d : Day) (e : Entry) → is_lawful_day d ≡ true → allowed d e ≡ true → stamp_small e.stamp ≡ true
allowed_stamp d e l h =
    let ends = day_ends d l in
    let first = ends.0 in
    let last = ends.1 in
    let both = and_parts (le_z d.night e.stamp) (le_z e.stamp d.close) (allowed_place d e h).1 in
    let from = le_from d.night e.stamp both.0 in
    let to = le_from e.stamp d.close both.1 in
    and_from (le_z (pos 0) e.stamp) (le_z e.stamp (pos 172799))
    (le_test (pos 0) e.stamp (omega (arith, ints)))
    (le_test e.stamp (pos 172799) (omega (arith, ints)))

-- an allowed entry is for no series past 31
other_series : (s : ℕ) (z : ℤ) → (le_z (pos 0) z && le_z z (pos 31)) ≡ true → 31 < s → is_series s z ≡ false
other_series s (pos n) h l =
    let few = leb-true n 31 (and_parts (le_z (pos 0) (pos n)) (le_z (pos n) (pos 31)) h).1 in
    ne_eqb n s (λ e. omega arith)
other_series s (negsuc n) h l = refl

nothing_holds : (t : ℤ) → holds nothing t ≡ false
nothing_holds (pos zero) = refl
nothing_holds (pos (suc n)) = grind (arith, ints)
nothing_holds (negsuc n) = refl

no_window : (d : Day) (w : ℕ) → (leb 1 w && leb w 13) ≡ false → edges d w ≡ nothing
no_window d w h =
    ⊎_elim
    (λ e. let none : w ≡ 0 = omega (arith, leb-false 1 w e) in ap (edges d) none)
    (λ e. get_or_past (windows d) w nothing (leb-false w 13 e))
    (and_cases (leb 1 w) (leb w 13) h)

-- outside series 0 to 31 and windows 1 to 13 figures stay as they are
pub outside_stays : (d : Day) (s w : ℕ) (f : Figures) (e : Entry) → allowed d e ≡ true → in_range s w ≡ false → entered d s w f e ≡ f
outside_stays d s w f e h r =
    cond-false (concerns s (edges d w) e) (with_entry e.kind e.stamp f) f
    (⊎_elim
    (λ past. and_left (is_series s e.series) (holds (edges d w) e.stamp) (other_series s e.series (allowed_place d e h).0 (leb-false s 31 past)))
    (λ none. and_right (is_series s e.series) (holds (edges d w) e.stamp) (ap (λ x. holds x e.stamp) (no_window d w none) ∙ nothing_holds e.stamp))
    (and_cases (leb s 31) (leb 1 w && leb w 13) r))
