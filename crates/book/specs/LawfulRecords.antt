-- What holds of a book whose meaning is told by the entries that it took.
use Rattle.std.specs.Prelude.{◌≡◌, ℕ, ◌+◌, ◌≤◌, Bool, true, false, List, [], ◌∷◌, length, ℤ, fold, refl}
use Rattle.std.proofs.Common.{sym, ap, ◌∙◌, subst, add-zero, arith}
use Rattle.std.proofs.lemmas.Bool.{and_parts, and_from}
use Rattle.book.specs.Bounds.{bounded}
use Rattle.book.specs.Days.{is_lawful_day}
use Rattle.book.specs.Entries.{allowed, kind_lawful}
use Rattle.book.specs.Figures.{empty, entered_in, sound, stamp_small}
use Rattle.book.specs.Growth.{bounded_entered, bounded_empty}
use Rattle.book.specs.Ledgers.{Lawful, entered, in_range}
use Rattle.book.specs.Ranges.{allowed_kind, allowed_stamp, outside_stays}
use Rattle.book.specs.Records.{every, figures_of, recorded}
use Rattle.book.specs.Windows.{edges}
use Rattle.book.specs.declared.days.Day.{Day}
use Rattle.book.specs.declared.entries.Entry.{Entry}
use Rattle.book.specs.declared.figures.Figures.{Figures}

-- allowed entries of a lawful day are sound
pub every_sound : (d : Day) (es : List Entry) → is_lawful_day d ≡ true → every (allowed d) es ≡ true → every sound es ≡ true
every_sound d [] l h = refl
every_sound d (e ∷ es) l h =
    let both = and_parts (allowed d e) (every (allowed d) es) h in
    and_from (sound e) (every sound es)
    (and_from (stamp_small e.stamp) (kind_lawful e.kind) (allowed_stamp d e l both.0) (allowed_kind d e both.0))
    (every_sound d es l both.1)

pub sound_parts : (e : Entry) → sound e ≡ true → (stamp_small e.stamp ≡ true) × (kind_lawful e.kind ≡ true)
sound_parts e h = and_parts (stamp_small e.stamp) (kind_lawful e.kind) h

pub bounded_from : (ok : Entry → Bool) → ((e : Entry) → ok e ≡ true → kind_lawful e.kind ≡ true) → (n s : ℕ) (x : ℤ × ℤ) (f : Figures) (es : List Entry)
    → every ok es ≡ true → bounded n f ≡ true → bounded (n + length es) (fold (entered_in s x) f es) ≡ true
bounded_from ok kind n s x f [] h b = subst (λ (k : ℕ). bounded k f ≡ true) (sym (add-zero n)) b
bounded_from ok kind n s x f (e ∷ es) h b =
    let both = and_parts (ok e) (every ok es) h in
    let count : (n + 1) + length es ≡ n + length (e ∷ es) = omega arith in
    subst (λ (k : ℕ). bounded k (fold (entered_in s x) (entered_in s x f e) es) ≡ true) count
    (bounded_from ok kind (n + 1) s x (entered_in s x f e) es both.1 (bounded_entered n s x f e (kind e both.0) b))

-- the figures of sound entries are within the bounds of their number
pub bounded_fold : (s : ℕ) (x : ℤ × ℤ) (es : List Entry) → every sound es ≡ true → bounded (length es) (fold (entered_in s x) empty es) ≡ true
bounded_fold s x es h =
    let count : 0 + length es ≡ length es = omega arith in
    subst (λ (k : ℕ). bounded k (fold (entered_in s x) empty es) ≡ true) count (bounded_from sound (λ e k. (sound_parts e k).1) 0 s x empty es h (bounded_empty 0))

outside_from : (d : Day) (s w : ℕ) (f : Figures) (es : List Entry) → every (allowed d) es ≡ true → in_range s w ≡ false → fold (entered d s w) f es ≡ f
outside_from d s w f [] h r = refl
outside_from d s w f (e ∷ es) h r =
    let both = and_parts (allowed d e) (every (allowed d) es) h in
    ap (λ g. fold (entered d s w) g es) (outside_stays d s w f e both.0 r) ∙ outside_from d s w f es both.1 r

of_none : (d : Day) (es : List Entry) (s w : ℕ) → length es ≡ 0 → figures_of d es s w ≡ empty
of_none d [] s w none = refl
of_none d (e ∷ es) s w none = absurd (omega arith)

-- a book of allowed entries keeps all that every book keeps
pub lawful_record : (d : Day) (k : ℕ) (es : List Entry) → is_lawful_day d ≡ true → k ≤ 30000 → length es ≤ k → every (allowed d) es ≡ true → Lawful (recorded d k es)
lawful_record d k es l most room h = record {
  lawful_day = l;
  most = most;
  room = room;
  bounds = λ s w. bounded_fold s (edges d w) es (every_sound d es l h);
  outside = λ s w r. outside_from d s w empty es h r;
  none_taken = λ none s w. of_none d es s w none;
}
