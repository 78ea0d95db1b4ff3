-- Series in the places of a list.
use Rattle.std.proofs.Common.{◌≡◌, ℕ, ◌<◌, ◌≤◌, true, List, length, get_or, set, replicate, ℤ, Option, ap, ◌∙◌, ⊎_elim, arith}
use Rattle.std.proofs.lemmas.List.{get_or_past, get_or-replicate, get_or-set_other, get_or-set_same, length-replicate}
use Rattle.std.proofs.lemmas.Bool.{and_from, and_parts, cases_eq, cases_lt}
use Rattle.book.specs.Entries.{side_lawful}
use Rattle.house.specs.Series.{blank, lawful_ruling, lawful_series}
use Rattle.house.specs.declared.series.Ruling.{Ruling}
use Rattle.house.specs.declared.series.Series.{Series}

-- a list of blank places, at every number
pub all_blank : (k n : ℕ) (s : Series) → s ≡ blank → get_or (replicate k s) n blank ≡ blank
all_blank k n s is =
    ⊎_elim
    (λ l. get_or-replicate k n s blank l ∙ is)
    (λ l. let long = length-replicate k s in get_or_past (replicate k s) n blank (omega arith))
    (cases_lt n k)

pub lawful_set : (slots : List Series) (k : ℕ) (s : Series) → k < length slots → ((n : ℕ) → lawful_series n (get_or slots n blank) ≡ true) → lawful_series k s ≡ true → (n : ℕ) → lawful_series n (get_or (set slots k s) n blank) ≡ true
lawful_set slots k s h all one n =
    ⊎_elim
    (λ e. ap (λ m. lawful_series m (get_or (set slots k s) m blank)) e ∙ ap (lawful_series k) (get_or-set_same slots k s blank h) ∙ one)
    (λ o. ap (lawful_series n) (get_or-set_other slots k n s blank o) ∙ all n)
    (cases_eq n k)

-- places past a written one stay unused
pub unused_set : (slots : List Series) (k m : ℕ) (s : Series) → k < m → ((n : ℕ) → m ≤ n → get_or slots n blank ≡ blank) → (n : ℕ) → m ≤ n → get_or (set slots k s) n blank ≡ blank
unused_set slots k m s h unused n le = get_or-set_other slots k n s blank (λ e. omega arith) ∙ unused n le

-- a lawful series stays so with another lawful value supplied
pub lawful_theory : (n : ℕ) (s : Series) (theory : Option ℤ) → lawful_series n s ≡ true → side_lawful theory ≡ true → lawful_series n (record { terms = s.terms; theory = theory; ruling = s.ruling }) ≡ true
lawful_theory n s theory h k = let both = and_parts _ _ h in and_from _ _ both.0 (and_from _ _ k (and_parts _ _ both.1).1)

pub lawful_ruled : (n : ℕ) (s : Series) (ruling : Option Ruling) → lawful_series n s ≡ true → lawful_ruling ruling ≡ true → lawful_series n (record { terms = s.terms; theory = s.theory; ruling = ruling }) ≡ true
lawful_ruled n s ruling h k = let both = and_parts _ _ h in and_from _ _ both.0 (and_from _ _ (and_parts _ _ both.1).0 k)

-- a supplied value leaves a series lawful
pub ruleset supplied = (lawful_theory, lawful_ruled)
