-- The multiples of a tick, and rounding to them.
use Rattle.std.specs.Prelude.{◌≡◌, ℕ, zero, suc, ◌/◌, ◌%◌, ◌<◌, ◌≤◌, true, ℤ, pos, negsuc, ◌+ℤ◌, ◌-ℤ◌, ◌*ℤ◌, neg_ℤ, ◌≤ℤ◌, ◌<ℤ◌, nat_eq, unsigned_abs, refl}
use Rattle.std.proofs.Common.{sym, ap, ◌∙◌, subst, mod-lt, div-add-mod', suc-mul, arith}
use Rattle.std.proofs.Math.Nat.{mul-mod_left}
use Rattle.std.specs.Int.{int_div_euclid, int_rem_euclid}
use Rattle.std.proofs.lemmas.Int.{ints, by_lt_z, unsigned_abs-mul}
use Rattle.std.proofs.lemmas.Bool.{eq-eqb, eqb-true}
use Rattle.ladders.specs.Multiples.{multiple}
use Rattle.ladders.specs.Rounding.{Above, Below, Near}
use Rattle.ladders.specs.Products.{times_rises, times_apart, neg_times}

-- a number is its quotient times t, rounded down, and a rest
pub split : (z : ℤ) (t : ℕ) → 0 < t → z ≡ (int_div_euclid z (pos t) *ℤ pos t) +ℤ int_rem_euclid z (pos t)
split (pos a) t h = let e = div-add-mod' a t in omega (arith, ints)
split (negsuc a) t h =
    let e = div-add-mod' a t in
    let m = suc-mul (a / t) t in
    let b = mod-lt a h in
    omega (arith, ints)

-- the rest is from 0 to below t
pub rest_range : (z : ℤ) (t : ℕ) → 0 < t → (pos 0 ≤ℤ int_rem_euclid z (pos t)) × (int_rem_euclid z (pos t) <ℤ pos t)
rest_range (pos a) t h = let b = mod-lt a h in (omega (arith, ints), omega (arith, ints))
rest_range (negsuc a) t h = (omega (arith, ints), omega (arith, ints))

pub times_multiple : (k : ℤ) (t : ℕ) → multiple t (k *ℤ pos t) ≡ true
times_multiple k t = eq-eqb _ 0 (ap (λ x. x % t) (unsigned_abs-mul k (pos t)) ∙ mul-mod_left (unsigned_abs k) t)

pub multiple_times : (t : ℕ) (z : ℤ) → multiple t z ≡ true → (k : ℤ) × (z ≡ k *ℤ pos t)
multiple_times t (pos a) m =
    let none = eqb-true (a % t) 0 m in
    let e = div-add-mod' a t in
    (pos (a / t), omega (arith, ints))
multiple_times t (negsuc a) m =
    let none = eqb-true (suc a % t) 0 m in
    let e = div-add-mod' (suc a) t in
    let n = neg_times (suc a / t) t in
    (neg_ℤ (pos (suc a / t)), omega (arith, ints))

-- a multiple that is less than t over another is not over it
pub multiples_apart : (t : ℕ) (q r : ℤ) → multiple t q ≡ true → multiple t r ≡ true → q <ℤ (r +ℤ pos t) → q ≤ℤ r
multiples_apart t q r mq mr h =
    let k = multiple_times t q mq in
    let j = multiple_times t r mr in
    by_lt_z j.0 k.0
    (λ l. let a = times_apart j.0 k.0 t l in let e = k.1 in let f = j.1 in omega (arith, ints))
    (λ l. let a = times_rises k.0 j.0 t l in let e = k.1 in let f = j.1 in omega (arith, ints))

down_multiple : (t : ℕ) (v : ℤ) → 0 < t → multiple t (v -ℤ int_rem_euclid v (pos t)) ≡ true
down_multiple t v h =
    let e = split v t h in
    let d : int_div_euclid v (pos t) *ℤ pos t ≡ v -ℤ int_rem_euclid v (pos t) = omega (arith, ints) in
    subst (λ (x : ℤ). multiple t x ≡ true) d (times_multiple (int_div_euclid v (pos t)) t)

pub down_is_below : (t : ℕ) (v : ℤ) → 0 < t → Below (multiple t) v (v -ℤ int_rem_euclid v (pos t))
down_is_below t v h =
    let rest = rest_range v t h in
    let m = down_multiple t v h in
    record {
      on = m;
      reaches = omega (arith, ints);
      greatest = λ q n l. multiples_apart t q (v -ℤ int_rem_euclid v (pos t)) n m (omega (arith, ints));
    }

multiple_neg : (t : ℕ) (z : ℤ) → multiple t (neg_ℤ z) ≡ multiple t z
multiple_neg t z = ap (λ a. nat_eq (a % t) 0) (abs_neg z)
  where
    abs_neg : (y : ℤ) → unsigned_abs (neg_ℤ y) ≡ unsigned_abs y
    abs_neg (pos zero) = refl
    abs_neg (pos (suc n)) = refl
    abs_neg (negsuc n) = refl

-- rounding up is rounding down in the mirror
pub up_is_above : (t : ℕ) (v : ℤ) → 0 < t → Above (multiple t) v (v +ℤ int_rem_euclid (neg_ℤ v) (pos t))
up_is_above t v h =
    let rest = rest_range (neg_ℤ v) t h in
    let down = down_is_below t (neg_ℤ v) h in
    let mirror : neg_ℤ (neg_ℤ v -ℤ int_rem_euclid (neg_ℤ v) (pos t)) ≡ v +ℤ int_rem_euclid (neg_ℤ v) (pos t) = omega (arith, ints) in
    record {
      on = subst (λ (x : ℤ). multiple t x ≡ true) mirror (multiple_neg t (neg_ℤ v -ℤ int_rem_euclid (neg_ℤ v) (pos t)) ∙ down.on);
      reaches = omega (arith, ints);
      least = λ q m l.
          let under = down.greatest (neg_ℤ q) (multiple_neg t q ∙ m) (omega (arith, ints)) in
          omega (arith, ints);
    }

pub up_is_near : (t : ℕ) (v : ℤ) → 0 < t → (v +ℤ int_rem_euclid (neg_ℤ v) (pos t)) <ℤ (v +ℤ pos t)
up_is_near t v h = let rest = rest_range (neg_ℤ v) t h in omega (arith, ints)

-- the same of numbers that are equal to those above, as a computation on bits leaves them
pub rounded_down : (t : ℕ) (v w rest r : ℤ) → 0 < t → w ≡ v → rest ≡ int_rem_euclid w (pos t) → r ≡ v -ℤ rest → Below (multiple t) v r
rounded_down t v w rest r h same is e =
    let found : r ≡ v -ℤ int_rem_euclid v (pos t) = e ∙ ap (λ x. v -ℤ x) (is ∙ ap (λ x. int_rem_euclid x (pos t)) same) in
    subst (Below (multiple t) v) (sym found) (down_is_below t v h)

pub rounded_up : (t : ℕ) (v w rest r : ℤ) → 0 < t → w ≡ neg_ℤ v → rest ≡ int_rem_euclid w (pos t) → r ≡ v +ℤ rest → Above (multiple t) v r
rounded_up t v w rest r h same is e =
    let found : r ≡ v +ℤ int_rem_euclid (neg_ℤ v) (pos t) = e ∙ ap (λ x. v +ℤ x) (is ∙ ap (λ x. int_rem_euclid x (pos t)) same) in
    subst (Above (multiple t) v) (sym found) (up_is_above t v h)

pub tick_is_near : (t : ℕ) → 0 < t → t ≤ 1000000 → (z : ℤ) → Near (multiple t) z
tick_is_near t some few z =
    let up = up_is_above t z some in
    let short = up_is_near t z some in
    record { price = z +ℤ int_rem_euclid (neg_ℤ z) (pos t); on = up.on; from = up.reaches; to = omega (arith, ints) }
