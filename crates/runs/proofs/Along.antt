-- What holds from a series to the one that refers to it holds along a path.
use Rattle.std.proofs.Common.{◌≡◌, ℕ, Bool, true, List, [], ◌∷◌, ℤ, Some, None, Option}
use Rattle.std.specs.List.{AllZip, AllByRecursion}
use Rattle.book.specs.Bounds.{bounded}
use Rattle.rows.specs.declared.places.Edition.{Edition}
use Rattle.house.specs.Answers.{Answer, answered, path_answer}
use Rattle.house.specs.Found.{Station}
use Rattle.house.specs.Series.{lawful_series}
use Rattle.runs.specs.Relations.{Matched, Relation}

-- what the house and the book keep of a station: a lawful series, and in each window figures of some number of entries
pub record StationLawful (x : Station) : Type 0 where
  pub series : lawful_series x.number x.series ≡ true
  pub figures : (w : ℕ) → (k : ℕ) × (bounded k (x.figures w) ≡ true)

-- two lawful stations with a relation between them
abbrev pub LawfulPair : Relation Station → Relation Station
LawfulPair R x y = StationLawful x × StationLawful y × R x y

pub lawful_pairs : (R : Relation Station) (xs ys : List Station) → AllByRecursion StationLawful xs
    → AllByRecursion StationLawful ys → AllZip R xs ys → AllZip (LawfulPair R) xs ys
lawful_pairs R [] [] l m r = tt
lawful_pairs R [] (y ∷ ys) l m r = r
lawful_pairs R (x ∷ xs) [] l m r = r
lawful_pairs R (x ∷ xs) (y ∷ ys) l m r = ((l.0, m.0, r.0), lawful_pairs R xs ys l.1 m.1 r.1)

-- where related stations with related answers for their references have related answers, so have the ends of two paths of
-- related stations
pub along : (P : ℕ → ℤ → Bool) (ed : Edition) (R : Relation Station) (A : Relation Answer)
    → ((x y : Station) (u v : Option Answer) → R x y → Matched A u v → A (answered P ed x u) (answered P ed y v))
    → (x y : Station) (xs ys : List Station) → AllZip R (x ∷ xs) (y ∷ ys) → A (path_answer P ed x xs) (path_answer P ed y ys)
along P ed R A next x y [] [] r = next x y None None r.0 tt
along P ed R A next x y [] (b ∷ ys) r = absurd r.1
along P ed R A next x y (a ∷ xs) [] r = absurd r.1
along P ed R A next x y (a ∷ xs) (b ∷ ys) r =
    next x y (Some (path_answer P ed a xs)) (Some (path_answer P ed b ys)) r.0 (along P ed R A next a b xs ys r.1)
