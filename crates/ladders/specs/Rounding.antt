-- What rounding to lawful prices means. `lawful` tells which whole numbers are lawful.
use Rattle.std.specs.Prelude.{◌≡◌, ℕ, ◌≤◌, Bool, true, false, ℤ, pos, ◌+ℤ◌, ◌-ℤ◌, ◌*ℤ◌, ◌≤ℤ◌, ◌<ℤ◌, Option, MatchOption, unsigned_abs}

-- there is an answer, of which P holds, exactly where the test does
abbrev pub AnswersWhere : {A : Type 0} → Bool → (A → Type 0) → Option A → Type 0
AnswersWhere test P r = MatchOption r (test ≡ false) (λ p. (test ≡ true) × P p)

-- the least lawful price not under v
pub record Above (lawful : ℤ → Bool) (v r : ℤ) : Type 0 where
  pub on : lawful r ≡ true
  pub reaches : v ≤ℤ r
  pub least : (q : ℤ) → lawful q ≡ true → v ≤ℤ q → r ≤ℤ q

-- the greatest lawful price not over v
pub record Below (lawful : ℤ → Bool) (v r : ℤ) : Type 0 where
  pub on : lawful r ≡ true
  pub reaches : r ≤ℤ v
  pub greatest : (q : ℤ) → lawful q ≡ true → q ≤ℤ v → q ≤ℤ r

-- how far the price p lies from the fraction n / d, in d-th parts of a point
abbrev pub distance : ℤ → ℕ → ℤ → ℕ
distance n d p = unsigned_abs ((p *ℤ pos d) -ℤ n)

-- the lawful price closest to the fraction n / d; of two equally close, the larger
pub record Nearest (lawful : ℤ → Bool) (n : ℤ) (d : ℕ) (p : ℤ) : Type 0 where
  pub on : lawful p ≡ true
  pub closest : (q : ℤ) → lawful q ≡ true → distance n d p ≤ distance n d q
  pub larger : (q : ℤ) → lawful q ≡ true → distance n d q ≡ distance n d p → q ≤ℤ p

-- among any 1,000,000 whole numbers in a row, here from z on, one is lawful: lawful prices have no end on either side,
-- and neighbours are at most 1,000,000 points apart
pub record Near (lawful : ℤ → Bool) (z : ℤ) : Type 0 where
  pub price : ℤ
  pub on : lawful price ≡ true
  pub from : z ≤ℤ price
  pub to : price <ℤ (z +ℤ pos 1000000)
