-- Roundings worked out on a tick.
use Rattle.std.proofs.Common.{◌≡◌, ℕ, ◌<◌, ℤ, pos, ◌+ℤ◌, ◌-ℤ◌, neg_ℤ, subst}
use Rattle.std.specs.Int.{int_rem_euclid}
use Rattle.ladders.specs.Fractions.{ceiling, floor}
use Rattle.ladders.specs.Multiples.{multiple}
use Rattle.ladders.specs.Rounding.{Above, Nearest}
use Rattle.ladders.specs.Values.{closer_of}
use Rattle.ladders.proofs.Nearest.{closer_is_nearest}
use Rattle.ladders.specs.ToTick.{down_is_below, up_is_above}

-- the multiples next to a whole number
abbrev up_to : ℕ → ℤ → ℤ
up_to t v = v +ℤ int_rem_euclid (neg_ℤ v) (pos t)

abbrev down_to : ℕ → ℤ → ℤ
down_to t v = v -ℤ int_rem_euclid v (pos t)

pub nearest_by : (t : ℕ) (n : ℤ) (d : ℕ) (p : ℤ) → 0 < t → 0 < d → closer_of n d (down_to t (floor n d)) (up_to t (ceiling n d)) ≡ p → Nearest (multiple t) n d p
nearest_by t n d p some some_d is =
    subst (Nearest (multiple t) n d) is
    (closer_is_nearest (multiple t) n d (down_to t (floor n d)) (up_to t (ceiling n d)) some_d (down_is_below t (floor n d) some) (up_is_above t (ceiling n d) some))

pub above_by : (t : ℕ) (v p : ℤ) → 0 < t → up_to t v ≡ p → Above (multiple t) v p
above_by t v p some is = subst (Above (multiple t) v) is (up_is_above t v some)
