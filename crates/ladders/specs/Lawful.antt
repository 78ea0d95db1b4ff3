-- Lawful descriptions, in the words of the rules. The definitions of faults tell besides what is wrong, and in which order
-- that is looked for; a contract says that the two agree.
use Rattle.std.specs.Prelude.{◌≡◌, ◌≤◌, true, List, [], ◌∷◌, length, ℤ, pos, ◌≤ℤ◌, ◌<ℤ◌, Some, None, Option, unsigned_abs}
use Rattle.std.specs.List.{AllByRecursion}
use Rattle.ladders.specs.Multiples.{multiple}
use Rattle.ladders.specs.Prices.{within}
use Rattle.ladders.specs.declared.bands.Band.{Band}

-- 1 to 1,000,000 points
abbrev pub LawfulTick : ℤ → Type 0
LawfulTick k = (pos 1 ≤ℤ k) × (k ≤ℤ pos 1000000)

-- over the start of the band before, where that has one
abbrev pub Over : Option ℤ → ℤ → Type 0
Over None s = Unit {0}
Over (Some a) s = a <ℤ s

-- a start s of the band b, after the band a: within the price limit, over the start before, and a multiple of the tick before
-- and of its own
pub record Starts (a b : Band) (s : ℤ) : Type 0 where
  pub limit : within s ≡ true
  pub over : Over a.start s
  pub before : multiple (unsigned_abs a.tick) s ≡ true
  pub own : multiple (unsigned_abs b.tick) s ≡ true

-- a later band has such a start
abbrev pub Follows : Band → Band → Type 0
Follows a b = (s : ℤ) × (b.start ≡ Some s) × Starts a b s

-- each band but the first follows the one before
abbrev pub Chain : Band → List Band → Type 0
Chain a [] = Unit {0}
Chain a (b ∷ bs) = Follows a b × Chain b bs

-- the first band has no start
abbrev pub Joined : List Band → Type 0
Joined [] = Unit {0}
Joined (b ∷ bs) = (b.start ≡ None) × Chain b bs

-- 1 to 4 bands with lawful ticks, joined at their starts
pub record LawfulBands (bs : List Band) : Type 0 where
  pub some : 1 ≤ length bs
  pub few : length bs ≤ 4
  pub ticks : AllByRecursion (λ b. LawfulTick b.tick) bs
  pub joined : Joined bs

-- 1 to 16 descriptions of ladders, each lawful
pub record LawfulSet {D : Type 0} (lawful : D → Type 0) (ds : List D) : Type 0 where
  pub some : 1 ≤ length ds
  pub few : length ds ≤ 16
  pub each : AllByRecursion lawful ds
