-- The values of `Values` are what the relations of `Rounding` ask for.
use Rattle.std.proofs.Common.{◌≡◌, ℕ, zero, suc, ◌<◌, ◌≤◌, Bool, true, ◌&&◌, ltb, ℤ, pos, negsuc, ◌+ℤ◌, ◌-ℤ◌, ◌*ℤ◌, neg_ℤ, nat_abs, ◌≤ℤ◌, ◌<ℤ◌, Some, None, Option, sym, refl, ap, ◌∙◌, subst, arith}
use lib.Signed.{le_z}
use Rattle.std.proofs.lemmas.Int.{ints, by_lt_z}
use Rattle.std.proofs.lemmas.Bool.{cond_both, cond-true, and_parts, ltb-true, false≢true}
use Rattle.ladders.specs.Laws.{Same, NotOver, NoLower}
use Rattle.ladders.specs.Prices.{within}
use Rattle.ladders.specs.Rounded.{Rounds, rounded}
use Rattle.ladders.specs.declared.rounding.Rounded.{Rounded}
use Rattle.ladders.specs.Rounding.{AnswersWhere, Above, Below, Nearest, Near, distance}
use Rattle.ladders.specs.Fractions.{inside, floor, ceiling}
use Rattle.ladders.specs.Values.{seek_up, seek_down, above_of, below_of, closer_of, nearest_of}
use Rattle.ladders.specs.Products.{times_rises, times_apart, times_neg, times_sum, times_swap}
use Rattle.ladders.specs.ToTick.{split, rest_range}
use Rattle.ladders.specs.Orders.{above_rises, below_rises, above_once, below_once, antisym, le_from_test, within_test}

-- where one of the k numbers from v on is lawful, the search finds the first
seek_up_finds : (P : ℤ → Bool) (k : ℕ) (v p : ℤ) → P p ≡ true → v ≤ℤ p → p <ℤ (v +ℤ pos k) → Above P v (seek_up P k v)
seek_up_finds P zero v p on from to = absurd (omega (arith, ints))
seek_up_finds P (suc k) v p on from to =
    cond_both (P v) v (seek_up P k (v +ℤ pos 1)) (Above P v)
    (λ e. record { on = e; reaches = omega (arith, ints); least = λ q _ l. l })
    (λ e.
    let past : (x : ℤ) → P x ≡ true → v ≤ℤ x → (v +ℤ pos 1) ≤ℤ x = λ x m l. by_lt_z v x (λ u. omega (arith, ints)) (λ u. let s : x ≡ v = omega (arith, ints) in absurd (false≢true (sym e ∙ ap P (sym s) ∙ m))) in
    let next = seek_up_finds P k (v +ℤ pos 1) p on (past p on from) (omega (arith, ints)) in
    let reached = next.reaches in
    record { on = next.on; reaches = omega (arith, ints); least = λ q m l. next.least q m (past q m l) })

seek_down_finds : (P : ℤ → Bool) (k : ℕ) (v p : ℤ) → P p ≡ true → p ≤ℤ v → (v -ℤ pos k) <ℤ p → Below P v (seek_down P k v)
seek_down_finds P zero v p on from to = absurd (omega (arith, ints))
seek_down_finds P (suc k) v p on from to =
    cond_both (P v) v (seek_down P k (v -ℤ pos 1)) (Below P v)
    (λ e. record { on = e; reaches = omega (arith, ints); greatest = λ q _ l. l })
    (λ e.
    let past : (x : ℤ) → P x ≡ true → x ≤ℤ v → x ≤ℤ (v -ℤ pos 1) = λ x m l. by_lt_z x v (λ u. omega (arith, ints)) (λ u. let s : x ≡ v = omega (arith, ints) in absurd (false≢true (sym e ∙ ap P (sym s) ∙ m))) in
    let next = seek_down_finds P k (v -ℤ pos 1) p on (past p on from) (omega (arith, ints)) in
    let reached = next.reaches in
    record { on = next.on; reaches = omega (arith, ints); greatest = λ q m l. next.greatest q m (past q m l) })

module _ (P : ℤ → Bool) (near : (z : ℤ) → Near P z) where
  pub above_of_is : (v : ℤ) → Above P v (above_of P v)
  unfolding above_of
  above_of_is v = let n = near v in seek_up_finds P 1000000 v n.price n.on n.from n.to

  pub below_of_is : (v : ℤ) → Below P v (below_of P v)
  unfolding below_of
  below_of_is v =
      let n = near (v -ℤ pos 999999) in
      let to = n.to in
      let from = n.from in
      seek_down_finds P 1000000 v n.price n.on (omega (arith, ints)) (omega (arith, ints))

  pub above_value : (v r : ℤ) → Above P v r → r ≡ above_of P v
  above_value v r a = above_once P v r (above_of P v) a (above_of_is v)

  pub below_value : (v r : ℤ) → Below P v r → r ≡ below_of P v
  below_value v r a = below_once P v r (below_of P v) a (below_of_is v)

-- ---- nearest

-- how far x lies from n, on either side
over_by : (x n : ℤ) → n ≤ℤ x → pos (nat_abs (x -ℤ n)) ≡ x -ℤ n
over_by x n h = pos_abs (x -ℤ n) (omega (arith, ints))
  where
    pos_abs : (z : ℤ) → pos 0 ≤ℤ z → pos (nat_abs z) ≡ z
    pos_abs (pos a) l = refl
    pos_abs (negsuc a) l = absurd (omega (arith, ints))

under_by : (x n : ℤ) → x ≤ℤ n → pos (nat_abs (x -ℤ n)) ≡ n -ℤ x
under_by x n h = neg_abs (x -ℤ n) (n -ℤ x) (omega (arith, ints)) (omega (arith, ints))
  where
    neg_abs : (z y : ℤ) → z ≤ℤ pos 0 → (z +ℤ y) ≡ pos 0 → pos (nat_abs z) ≡ y
    neg_abs (pos a) y l e = omega (arith, ints)
    neg_abs (negsuc a) y l e = omega (arith, ints)

-- the floor's product is not over n, and the ceiling's not under it
pub floor_under : (n : ℤ) (d : ℕ) → 0 < d → (floor n d *ℤ pos d) ≤ℤ n
floor_under n d h = let e = split n d h in let r = rest_range n d h in omega (arith, ints)

pub ceiling_over : (n : ℤ) (d : ℕ) → 0 < d → n ≤ℤ (ceiling n d *ℤ pos d)
ceiling_over n d h =
    let under = floor_under (neg_ℤ n) d h in
    let mirror = times_neg (floor (neg_ℤ n) d) d in
    omega (arith, ints)

-- a number over the floor has a product over n
over_floor : (n : ℤ) (d : ℕ) (q : ℤ) → 0 < d → floor n d <ℤ q → n <ℤ (q *ℤ pos d)
over_floor n d q h l =
    let e = split n d h in
    let rest = rest_range n d h in
    let apart = times_apart (floor n d) q d l in
    omega (arith, ints)

-- no whole number lies between floor and ceiling
pub floor_or_ceiling : {X : Type 0} (n : ℤ) (d : ℕ) (q : ℤ) → 0 < d → (q ≤ℤ floor n d → X) → (ceiling n d ≤ℤ q → X) → X
floor_or_ceiling n d q h low high =
    by_lt_z (floor n d) q
    (λ l. by_lt_z q (ceiling n d)
    (λ u.
    let over = over_floor n d q h l in
    let under = over_floor (neg_ℤ n) d (neg_ℤ q) h (omega (arith, ints)) in
    let mirror = times_neg q d in
    absurd (omega (arith, ints)))
    high)
    low

-- equal products come of equal numbers
times_once : (a b : ℤ) (d : ℕ) → 0 < d → (a *ℤ pos d) ≤ℤ (b *ℤ pos d) → a ≤ℤ b
times_once a b d h l = by_lt_z b a (λ u. let apart = times_apart b a d u in absurd (omega (arith, ints))) (λ u. u)

-- a lawful price is not over the lawful price below a fraction, or not under the one above it
on_either_side : {X : Type 0} (P : ℤ → Bool) (n : ℤ) (d : ℕ) (low high : ℤ) → 0 < d → Below P (floor n d) low → Above P (ceiling n d) high → (q : ℤ) → P q ≡ true → (q ≤ℤ low → (q *ℤ pos d) ≤ℤ (low *ℤ pos d) → X) → (high ≤ℤ q → (high *ℤ pos d) ≤ℤ (q *ℤ pos d) → X) → X
on_either_side P n d low high h b a q m small large =
    floor_or_ceiling n d q h
    (λ l. let s = b.greatest q m l in small s (times_rises q low d s))
    (λ l. let s = a.least q m l in large s (times_rises high q d s))

-- what a fraction inside the limit keeps
pub inside_range : (n : ℤ) (d : ℕ) → inside n d ≡ true → (0 < d) × (((negsuc 999999999 *ℤ pos d) ≤ℤ n) × (n ≤ℤ (pos 1000000000 *ℤ pos d)))
inside_range n d e =
    let both = and_parts (ltb 0 d) (le_z (negsuc 999999999 *ℤ pos d) n && le_z n (pos 1000000000 *ℤ pos d)) e in
    let range = and_parts (le_z (negsuc 999999999 *ℤ pos d) n) (le_z n (pos 1000000000 *ℤ pos d)) both.1 in
    (ltb-true 0 d both.0, (le_from_test _ _ range.0, le_from_test _ _ range.1))

-- then its floor and ceiling are prices within it
pub floor_within : (n : ℤ) (d : ℕ) → inside n d ≡ true → within (floor n d) ≡ true
floor_within n d e =
    let r = inside_range n d e in
    let under = floor_under n d r.0 in
    let low : negsuc 999999999 ≤ℤ floor n d = by_lt_z (floor n d) (negsuc 999999999) (λ l. let over = over_floor n d (negsuc 999999999) r.0 l in absurd (omega (arith, ints))) (λ l. l) in
    let high : floor n d ≤ℤ pos 1000000000 = times_once (floor n d) (pos 1000000000) d r.0 (omega (arith, ints)) in
    within_test (floor n d) low high

pub ceiling_within : (n : ℤ) (d : ℕ) → inside n d ≡ true → within (ceiling n d) ≡ true
ceiling_within n d e =
    let r = inside_range n d e in
    let over = ceiling_over n d r.0 in
    let low : negsuc 999999999 ≤ℤ ceiling n d = times_once (negsuc 999999999) (ceiling n d) d r.0 (omega (arith, ints)) in
    let high : ceiling n d ≤ℤ pos 1000000000 = by_lt_z (pos 1000000000) (ceiling n d) (λ l. let past = over_floor (neg_ℤ n) d (negsuc 999999999) r.0 (omega (arith, ints)) in absurd (omega (arith, ints))) (λ l. l) in
    within_test (ceiling n d) low high

-- the closer of the lawful prices next to a fraction is the nearest
pub closer_is_nearest : (P : ℤ → Bool) (n : ℤ) (d : ℕ) (low high : ℤ) → 0 < d → Below P (floor n d) low → Above P (ceiling n d) high → Nearest P n d (closer_of n d low high)
closer_is_nearest P n d low high h b a =
    let lowest = times_rises low (floor n d) d b.reaches in
    let highest = times_rises (ceiling n d) high d a.reaches in
    let f = floor_under n d h in
    let c = ceiling_over n d h in
    let L = low *ℤ pos d in
    let H = high *ℤ pos d in
    let under = under_by L n (omega (arith, ints)) in
    let over = over_by H n (omega (arith, ints)) in
    cond_both (le_z (H -ℤ n) (n -ℤ L)) high low (Nearest P n d)
    (λ e.
    let t : (H -ℤ n) ≤ℤ (n -ℤ L) = grind (arith, ints) in
    record {
      on = a.on;
      closest = λ q m. on_either_side P n d low high h b a q m
          (λ s l. let o = under_by (q *ℤ pos d) n (omega (arith, ints)) in omega (arith, ints))
          (λ s l. let o = over_by (q *ℤ pos d) n (omega (arith, ints)) in omega (arith, ints));
      larger = λ q m same. on_either_side P n d low high h b a q m
          (λ s l. times_once q high d h (omega (arith, ints)))
          (λ s l. let o = over_by (q *ℤ pos d) n (omega (arith, ints)) in times_once q high d h (omega (arith, ints)));
    })
    (λ e.
    let t : (n -ℤ L) <ℤ (H -ℤ n) = grind (arith, ints) in
    record {
      on = b.on;
      closest = λ q m. on_either_side P n d low high h b a q m
          (λ s l. let o = under_by (q *ℤ pos d) n (omega (arith, ints)) in omega (arith, ints))
          (λ s l. let o = over_by (q *ℤ pos d) n (omega (arith, ints)) in omega (arith, ints));
      larger = λ q m same. on_either_side P n d low high h b a q m
          (λ s l. s)
          (λ s l. let o = over_by (q *ℤ pos d) n (omega (arith, ints)) in absurd (omega (arith, ints)));
    })

-- ---- nearest rises with the fraction

-- n lies at or over the middle of x and y where y is at least as close, and under it where x is closer
over_middle : (x y n : ℤ) → x <ℤ y → nat_abs (y -ℤ n) ≤ nat_abs (x -ℤ n) → (x +ℤ y) ≤ℤ (n +ℤ n)
over_middle x y n l h =
    by_lt_z n x
    (λ u. let a = over_by x n (omega (arith, ints)) in let b = over_by y n (omega (arith, ints)) in absurd (omega (arith, ints)))
    (λ u. by_lt_z n y
    (λ w. let a = under_by x n u in let b = over_by y n (omega (arith, ints)) in omega (arith, ints))
    (λ w. omega (arith, ints)))

under_middle : (x y n : ℤ) → x <ℤ y → nat_abs (x -ℤ n) < nat_abs (y -ℤ n) → (n +ℤ n) <ℤ (x +ℤ y)
under_middle x y n l h =
    by_lt_z n x
    (λ u. omega (arith, ints))
    (λ u. by_lt_z n y
    (λ w. let a = under_by x n u in let b = over_by y n (omega (arith, ints)) in omega (arith, ints))
    (λ w. let a = under_by x n u in let b = under_by y n w in absurd (omega (arith, ints))))

pub nearest_rises : (P Q : ℤ → Bool) → ((z : ℤ) → P z ≡ Q z) → (n m : ℤ) (d e : ℕ) (p q : ℤ) → 0 < d → 0 < e → Nearest P n d p → Nearest Q m e q → (n *ℤ pos e) ≤ℤ (m *ℤ pos d) → p ≤ℤ q
nearest_rises P Q same n m d e p q some_d some_e a b h = by_lt_z q p (λ l. absurd (never l)) (λ l. l)
  where
    never : q <ℤ p → ⊥
    never l =
        let x = times_apart q p d l in
        let y = times_apart q p e l in
        let up = over_middle (q *ℤ pos d) (p *ℤ pos d) n (omega (arith, ints)) (a.closest q (same q ∙ b.on)) in
        let apart : nat_abs ((q *ℤ pos e) -ℤ m) ≡ nat_abs ((p *ℤ pos e) -ℤ m) → ⊥ = λ f. let k = b.larger p (sym (same p) ∙ a.on) (sym f) in omega (arith, ints) in
        let close = b.closest p (sym (same p) ∙ a.on) in
        let down = under_middle (q *ℤ pos e) (p *ℤ pos e) m (omega (arith, ints)) (omega (arith, apart)) in
        let ups = times_rises ((q *ℤ pos d) +ℤ (p *ℤ pos d)) (n +ℤ n) e up in
        let downs = times_apart (m +ℤ m) ((q *ℤ pos e) +ℤ (p *ℤ pos e)) d down in
        let u = times_sum (q *ℤ pos d) (p *ℤ pos d) e in
        let w = times_sum (q *ℤ pos e) (p *ℤ pos e) d in
        let nn = times_sum n n e in
        let mm = times_sum m m d in
        let sq = times_swap q d e in
        let sp = times_swap p d e in
        omega (arith, ints)

pub nearest_once : (P : ℤ → Bool) (n : ℤ) (d : ℕ) (p q : ℤ) → Nearest P n d p → Nearest P n d q → p ≡ q
nearest_once P n d p q a b =
    let level : distance n d p ≡ distance n d q = let k = a.closest q b.on in let l = b.closest p a.on in omega arith in
    antisym p q (b.larger p a.on level) (a.larger q b.on (sym level))

pub nearest_value : (P : ℤ → Bool) (near : (z : ℤ) → Near P z) (n : ℤ) (d : ℕ) (p : ℤ) → 0 < d → Nearest P n d p → p ≡ nearest_of P n d
unfolding nearest_of
nearest_value P near n d p h a =
    nearest_once P n d p _ a
    (closer_is_nearest P n d (below_of P (floor n d)) (above_of P (ceiling n d)) h (below_of_is P near (floor n d)) (above_of_is P near (ceiling n d)))

nearest_is : (P : ℤ → Bool) (n : ℤ) (d : ℕ) → nearest_of P n d ≡ closer_of n d (below_of P (floor n d)) (above_of P (ceiling n d))
unfolding nearest_of
nearest_is P n d = refl

-- ---- a fraction rounded three ways

pub rounds_from : (P : ℤ → Bool) (n : ℤ) (d : ℕ) (low high : ℤ) (r : Rounded) → inside n d ≡ true → Below P (floor n d) low → Above P (ceiling n d) high → r.below ≡ low → r.nearest ≡ closer_of n d low high → r.above ≡ high → Rounds P n d r
rounds_from P n d low high r e b a below nearest above =
    record {
      below = subst (Below P (floor n d)) (sym below) b;
      nearest = subst (Nearest P n d) (sym nearest) (closer_is_nearest P n d low high (inside_range n d e).0 b a);
      above = subst (Above P (ceiling n d)) (sym above) a;
    }

pub rounds_value : (P : ℤ → Bool) → ((z : ℤ) → Near P z) → (n : ℤ) (d : ℕ) (r : Rounded) → inside n d ≡ true → Rounds P n d r → Some r ≡ rounded P n d
rounds_value P near n d r e h =
    ap Some (λ i. record {
      below = below_value P near (floor n d) r.below h.below i;
      nearest = nearest_value P near n d r.nearest (inside_range n d e).0 h.nearest i;
      above = above_value P near (ceiling n d) r.above h.above i;
    })
    ∙ sym (cond-true (inside n d) _ None e)

-- ---- rounding rises with the fraction

floor_rises : (n m : ℤ) (d e : ℕ) → 0 < d → 0 < e → NotOver n d m e → floor n d ≤ℤ floor m e
floor_rises n m d e some_d some_e h =
    by_lt_z (floor m e) (floor n d)
    (λ l.
    let q = floor n d in
    let under = times_rises (q *ℤ pos d) n e (floor_under n d some_d) in
    let over = times_apart m (q *ℤ pos e) d (over_floor m e q some_e l) in
    let swap = times_swap q d e in
    absurd (omega (arith, ints)))
    (λ l. l)

ceiling_rises : (n m : ℤ) (d e : ℕ) → 0 < d → 0 < e → NotOver n d m e → ceiling n d ≤ℤ ceiling m e
ceiling_rises n m d e some_d some_e h =
    let left = times_neg n e in
    let right = times_neg m d in
    let mirror = floor_rises (neg_ℤ m) (neg_ℤ n) e d some_e some_d (omega (arith, ints)) in
    omega (arith, ints)

-- what a set answers about a fraction
abbrev pub Answer : (ℤ → Bool) → ℤ → ℕ → Option Rounded → Type 0
Answer P n d r = AnswersWhere (inside n d) (Rounds P n d) r

pub rounded_answers : (P : ℤ → Bool) → ((z : ℤ) → Near P z) → (n : ℤ) (d : ℕ) (r : Option Rounded) → r ≡ rounded P n d → Answer P n d r
rounded_answers P near n d r is =
    subst (Answer P n d) (sym is)
    (cond_both (inside n d) _ None (Answer P n d)
    (λ e.
    let low = below_of_is P near (floor n d) in
    let high = above_of_is P near (ceiling n d) in
    (e, rounds_from P n d (below_of P (floor n d)) (above_of P (ceiling n d)) _ e low high refl (nearest_is P n d) refl))
    (λ e. e))

pub rounding_rises : (P Q : ℤ → Bool) → Same P Q → (n m : ℤ) (d e : ℕ) (r s : Option Rounded) → Answer P n d r → Answer Q m e s → NotOver n d m e → NoLower r s
rounding_rises P Q same n m d e None s a b h = tt
rounding_rises P Q same n m d e (Some r) None a b h = tt
rounding_rises P Q same n m d e (Some r) (Some s) a b h =
    let some_d = (inside_range n d a.0).0 in
    let some_e = (inside_range m e b.0).0 in (
      below_rises P Q same (floor n d) (floor m e) r.below s.below a.1.below b.1.below (floor_rises n m d e some_d some_e h),
      (
        nearest_rises P Q same n m d e r.nearest s.nearest some_d some_e a.1.nearest b.1.nearest h,
        above_rises P Q same (ceiling n d) (ceiling m e) r.above s.above a.1.above b.1.above (ceiling_rises n m d e some_d some_e h),
      ),
    )

-- ---- neighbours

-- the lawful prices on either side of a fraction are at most 1,000,000 points apart
pub rounds_close : (P : ℤ → Bool) → ((z : ℤ) → Near P z) → (n : ℤ) (d : ℕ) (r : Rounded) → inside n d ≡ true → Rounds P n d r → r.above ≤ℤ (r.below +ℤ pos 1000000)
rounds_close P near n d r e h =
    let next = near (r.below +ℤ pos 1) in
    let from = next.from in
    let to = next.to in
    floor_or_ceiling n d next.price (inside_range n d e).0
    (λ l. let low = h.below.greatest next.price next.on l in absurd (omega (arith, ints)))
    (λ l. let high = h.above.least next.price next.on l in omega (arith, ints))
