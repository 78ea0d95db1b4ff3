-- Laws of whole numbers times a natural number. The library has the product and not these.
use Rattle.std.specs.Prelude.{◌≡◌, ℕ, zero, suc, ◌*◌, ◌^◌, ◌<◌, ◌≤◌, ℤ, pos, negsuc, ◌+ℤ◌, ◌-ℤ◌, ◌*ℤ◌, neg_ℤ, ◌≤ℤ◌, ◌<ℤ◌, FitsSigned, unsigned_abs, refl}
use Rattle.std.proofs.Common.{sym, ap, ◌∙◌, subst, mul-le-mul_right, zero-mul, mul_right_comm, arith, to_z, of_z}
use Rattle.std.proofs.Math.IntN.{suc_ℤ-*ℤ, +ℤ_one, +ℤ_idr, ℤ_ind}
use Rattle.std.specs.Int.{w64, w128}
use Rattle.std.proofs.lemmas.Int.{ints, to_z-of_z, fits_signed_from_abs}

-- a larger number has a larger product
pub times_rises : (a b : ℤ) (t : ℕ) → a ≤ℤ b → (a *ℤ pos t) ≤ℤ (b *ℤ pos t)
times_rises (pos a) (pos b) t h =
    let m : a ≤ b = omega (arith, ints) in
    let p = mul-le-mul_right t m in
    omega (arith, ints)
times_rises (pos a) (negsuc b) t h = omega (arith, ints)
times_rises (negsuc a) (pos b) t h = omega (arith, ints)
times_rises (negsuc a) (negsuc b) t h =
    let m : suc b ≤ suc a = omega (arith, ints) in
    let p = mul-le-mul_right t m in
    omega (arith, ints)

pub times_next : (a : ℤ) (t : ℕ) → (a +ℤ pos 1) *ℤ pos t ≡ (a *ℤ pos t) +ℤ pos t
times_next a t = ap (λ b. b *ℤ pos t) (+ℤ_one a) ∙ suc_ℤ-*ℤ a (pos t)

-- two products of different numbers lie at least t apart
pub times_apart : (a b : ℤ) (t : ℕ) → a <ℤ b → ((a *ℤ pos t) +ℤ pos t) ≤ℤ (b *ℤ pos t)
times_apart a b t h =
    let n : (a +ℤ pos 1) ≤ℤ b = omega (arith, ints) in
    subst (λ (x : ℤ). x ≤ℤ (b *ℤ pos t)) (times_next a t) (times_rises (a +ℤ pos 1) b t n)

pub neg_times : (q t : ℕ) → neg_ℤ (pos q) *ℤ pos t ≡ neg_ℤ (pos (q * t))
neg_times zero t = let z : 0 * t ≡ 0 = zero-mul t in omega (arith, ints)
neg_times (suc q) t = refl

-- the product of a sum is the sum of the products, by induction on the second number
pub times_sum : (a b : ℤ) (t : ℕ) → (a +ℤ b) *ℤ pos t ≡ (a *ℤ pos t) +ℤ (b *ℤ pos t)
times_sum a b t = ℤ_ind Adds none (λ n. up (pos n)) (λ n. down (neg_ℤ (pos n))) b
  where
    Adds : ℤ → Type 0
    Adds c = (a +ℤ c) *ℤ pos t ≡ (a *ℤ pos t) +ℤ (c *ℤ pos t)

    times : ℤ → ℤ
    times c = c *ℤ pos t

    none : Adds (pos 0)
    none = ap times (+ℤ_idr a) ∙ sym (ap (λ c. (a *ℤ pos t) +ℤ c) (ap pos (zero-mul t)) ∙ +ℤ_idr (a *ℤ pos t))

    up : (c : ℤ) → Adds c → Adds (c +ℤ pos 1)
    up c h =
        let same : a +ℤ (c +ℤ pos 1) ≡ (a +ℤ c) +ℤ pos 1 = omega (arith, ints) in
        let left = ap times same ∙ times_next (a +ℤ c) t in
        let right = times_next c t in
        omega (arith, ints)

    down : (c : ℤ) → Adds c → Adds (c +ℤ negsuc 0)
    down c h =
        let same : (a +ℤ (c +ℤ negsuc 0)) +ℤ pos 1 ≡ a +ℤ c = omega (arith, ints) in
        let back : (c +ℤ negsuc 0) +ℤ pos 1 ≡ c = omega (arith, ints) in
        let left = sym (times_next (a +ℤ (c +ℤ negsuc 0)) t) ∙ ap times same in
        let right = sym (times_next (c +ℤ negsuc 0) t) ∙ ap times back in
        omega (arith, ints)

pub times_swap : (a : ℤ) (s t : ℕ) → (a *ℤ pos s) *ℤ pos t ≡ (a *ℤ pos t) *ℤ pos s
times_swap (pos a) s t = ap pos (mul_right_comm a s t)
times_swap (negsuc a) s t = neg_times (suc a * s) t ∙ ap (λ n. neg_ℤ (pos n)) (mul_right_comm (suc a) s t) ∙ sym (neg_times (suc a * t) s)

pub times_neg : (a : ℤ) (t : ℕ) → neg_ℤ a *ℤ pos t ≡ neg_ℤ (a *ℤ pos t)
times_neg (pos a) t = neg_times a t
times_neg (negsuc a) t = omega (arith, ints)

pub abs_fits : (z : ℤ) → FitsSigned w64 z → unsigned_abs z ≤ 2 ^ 63
abs_fits (pos n) f = let h = f.sfits in omega arith
abs_fits (negsuc n) f = let h = f.sfits in omega arith

-- a difference of such products, as it is computed on bits
pub difference : (x y : ℤ) → unsigned_abs x < 2 ^ 96 → unsigned_abs y < 2 ^ 96 → to_z w128 (of_z w128 (to_z w128 (of_z w128 x) -ℤ to_z w128 (of_z w128 y))) ≡ x -ℤ y
difference x y h k =
    let same = ap (λ z. z -ℤ to_z w128 (of_z w128 y)) (to_z-of_z w128 x (fits_signed_from_abs w128 x (omega arith))) ∙ ap (λ z. x -ℤ z) (to_z-of_z w128 y (fits_signed_from_abs w128 y (omega arith))) in
    ap (λ z. to_z w128 (of_z w128 z)) same ∙ to_z-of_z w128 (x -ℤ y) (less_fits x y h k)
  where
    less_fits : (a b : ℤ) → unsigned_abs a < 2 ^ 96 → unsigned_abs b < 2 ^ 96 → FitsSigned w128 (a -ℤ b)
    less_fits a b h k = omega (arith, ints)
