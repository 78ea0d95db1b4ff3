-- What holds of figures after any allowed entries, and of a book told by its entries that takes one more.
use Rattle.std.proofs.Common.{◌≡◌, ℕ, ◌+◌, ◌≤◌, Bool, true, List, [], ◌∷◌, ◌++◌, length, ℤ, Ok, fold, sym, refl, ap, ◌∙◌, arith}
use Rattle.std.proofs.lemmas.List.{length_push}
use Rattle.std.proofs.lemmas.List.Sums.{fold_push}
use Rattle.std.proofs.lemmas.Bool.{and_parts, and_from}
use Rattle.book.specs.Bounds.{bounded}
use Rattle.book.specs.Entries.{allowed}
use Rattle.book.specs.Figures.{empty, entered_if, entered_in, sound}
use Rattle.book.specs.Growth.{bounded_entered, bounded_empty, enters, roomy_from}
use Rattle.book.specs.LawfulRecords.{sound_parts}
use Rattle.book.specs.Ledgers.{entered, take_after, take_answer, with_taken}
use Rattle.book.specs.Records.{every, figures_of, recorded}
use Rattle.book.specs.declared.days.Day.{Day}
use Rattle.book.specs.declared.entries.Entry.{Entry}
use Rattle.book.specs.declared.figures.Figures.{Figures}
use Rattle.book.proofs.Taking.{admitted}

-- ---- tests of every element

pub every_push : {X : Type 0} (p : X → Bool) (xs : List X) (x : X) → every p xs ≡ true → p x ≡ true → every p (xs ++ (x ∷ [])) ≡ true
every_push p [] x e h = and_from (p x) true h refl
every_push p (y ∷ ys) x e h =
    let both = and_parts (p y) (every p ys) e in
    and_from (p y) (every p (ys ++ (x ∷ []))) both.0 (every_push p ys x both.1 h)

-- ---- folds over sound entries

-- few enough sound entries all enter: the sums never lack room
same_from : (n s : ℕ) (x : ℤ × ℤ) (f : Figures) (es : List Entry) → n + length es ≤ 30000 → every sound es ≡ true → bounded n f ≡ true → fold (entered_if s x) f es ≡ fold (entered_in s x) f es
same_from n s x f [] few h b = refl
same_from n s x f (e ∷ es) few h b =
    let both = and_parts (sound e) (every sound es) h in
    ap (λ g. fold (entered_if s x) g es) (enters s x f e both.0 (roomy_from n f b (omega arith)))
    ∙ same_from (n + 1) s x (entered_in s x f e) es (omega arith) both.1 (bounded_entered n s x f e (sound_parts e both.0).1 b)

pub same_fold : (s : ℕ) (x : ℤ × ℤ) (es : List Entry) → length es ≤ 30000 → every sound es ≡ true → fold (entered_if s x) empty es ≡ fold (entered_in s x) empty es
same_fold s x es few h = same_from 0 s x empty es (omega arith) h (bounded_empty 0)

-- one entry more
pub recorded_push : (d : Day) (k : ℕ) (es : List Entry) (e : Entry) → recorded d k (es ++ (e ∷ [])) ≡ with_taken (recorded d k es) e
recorded_push d k es e =
    let count = length_push es e in
    let more : (s w : ℕ) → figures_of d (es ++ (e ∷ [])) s w ≡ entered d s w (figures_of d es s w) e = λ s w. fold_push (entered d s w) empty es e in
    λ i. record { day = d; capacity = k; count = count i; figures = λ s w. more s w i }

-- a book that is told by these entries, and takes one more
pub record TakesOne (d : Day) (k : ℕ) (es : List Entry) (e : Entry) : Type 0 where
  pub allowed : every (allowed d) (es ++ (e ∷ [])) ≡ true
  pub room : length (es ++ (e ∷ [])) ≤ k
  pub after : recorded d k (es ++ (e ∷ [])) ≡ take_after (recorded d k es) e

pub takes_one : (d : Day) (k : ℕ) (es : List Entry) (e : Entry) → every (allowed d) es ≡ true → length es ≤ k → Ok tt ≡ take_answer (recorded d k es) e → TakesOne d k es e
takes_one d k es e all room ok =
    let a = admitted (recorded d k es) e ok in
    let count = length_push es e in
    let full = a.place in
    record {
      allowed = every_push (allowed d) es e all a.lawful;
      room = omega arith;
      after = recorded_push d k es e ∙ sym a.taken;
    }
