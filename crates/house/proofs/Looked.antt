-- What the steps find, and how far it reaches.
use Rattle.std.proofs.Common.{◌≡◌, ℕ, ◌+◌, ◌≤◌, Bool, true, cond, ℤ, pos, negsuc, ◌+ℤ◌, ◌-ℤ◌, ◌*ℤ◌, nat_abs, ◌≤ℤ◌, Some, None, Ok, Option, sym, ap, ◌∙◌, arith}
use lib.Signed.{le_z}
use Rattle.std.specs.Option.{IfSome}
use Rattle.std.proofs.lemmas.Int.{ints}
use Rattle.std.proofs.lemmas.Bool.{and_parts, cond_both, cond-false, cond-true}
use Rattle.book.specs.Bounds.{bounded, last_if}
use Rattle.book.specs.Entries.{price_lawful, side_lawful, spread_lawful}
use Rattle.book.specs.declared.figures.Figures.{Figures}
use Rattle.book.specs.declared.figures.Last.{Last}
use Rattle.book.specs.declared.figures.Sides.{Sides}
use Rattle.book.specs.Growth.{parts}
use Rattle.book.specs.Limits.{price_bound}
use Rattle.ladders.specs.Fractions.{ceiling, floor, inside}
use Rattle.ladders.specs.Prices.{within}
use Rattle.ladders.specs.Rounding.{Above, AnswersWhere, Near}
use Rattle.ladders.specs.Values.{above_of, below_of, nearest_of, nearest_price}
use Rattle.ladders.specs.Orders.{within_range}
use Rattle.ladders.proofs.Nearest.{above_of_is, above_value, below_of_is, ceiling_within, floor_within}
use Rattle.rows.specs.declared.steps.Step.{Step}
use Rattle.rows.specs.declared.steps.Step.TheVariants.{Auction, Trade, Quote, Average, Theory, TheoryUp, Spread, PreviousSpread, Copy, Previous, Ruling}
use Rattle.house.specs.Answers.{Answer, ruled_first}
use Rattle.house.specs.Found.{above_theory, price_found, last_value, less, middle, nearest_theory, quoted, ruled, timed}
use Rattle.house.specs.Reach.{InReach, InReachBefore, TimedInReach, reach}
use Rattle.house.specs.Series.{lawful_ruling, lawful_series}
use Rattle.house.specs.Terms.{lawful_spread}
use Rattle.house.specs.declared.series.Ruling as rulings
use Rattle.house.specs.declared.series.Series.{Series}

-- above as a value
pub above_found : (P : ℤ → Bool) → ((z : ℤ) → Near P z) → (v : ℤ) (r : Option ℤ) → AnswersWhere (within v) (Above P v) r → r ≡ cond (within v) (Some (above_of P v)) None
above_found P near v None h = sym (cond-false (within v) (Some (above_of P v)) None h)
above_found P near v (Some p) h = ap Some (above_value P near v p h.1) ∙ sym (cond-true (within v) (Some (above_of P v)) None h.0)

-- ---- what is known of a lawful series and of bounded figures, part by part

pub record SeriesParts (s : Series) : Type 0 where
  pub previous_settlement : side_lawful s.terms.previous_settlement ≡ true
  pub previous_spread : IfSome s.terms.previous_spread (λ d. spread_lawful d ≡ true)
  pub theory : side_lawful s.theory ≡ true
  pub ruling : lawful_ruling s.ruling ≡ true

pub series_parts : (n : ℕ) (s : Series) → lawful_series n s ≡ true → SeriesParts s
series_parts n s h =
    let whole = and_parts _ _ h in
    let supplied = and_parts _ _ whole.1 in
    let previous = and_parts _ _ (and_parts _ _ whole.0).1 in
    record { previous_settlement = previous.0; previous_spread = any_spread s.terms.previous_spread previous.1; theory = supplied.0; ruling = supplied.1 }
  where
    any_spread : (v : Option ℤ) → lawful_spread s.terms.family v ≡ true → IfSome v (λ d. spread_lawful d ≡ true)
    any_spread None e = tt
    any_spread (Some v) e = (and_parts _ _ e).1

-- the previous spread that a series has, if any, is within the limits of spreads
pub previous_spread_within : (n : ℕ) (s : Series) → lawful_series n s ≡ true → IfSome s.terms.previous_spread (λ d. spread_lawful d ≡ true)
previous_spread_within n s h = (series_parts n s h).previous_spread

-- the last spread, if there is one, is too
last_spread : (o : Option (Last ℤ)) → last_if spread_lawful o ≡ true → IfSome (last_value o) (λ d. spread_lawful d ≡ true)
last_spread None h = tt
last_spread (Some l) h = h

pub last_spread_within : (k : ℕ) (f : Figures) → bounded k f ≡ true → IfSome (last_value f.spread) (λ d. spread_lawful d ≡ true)
last_spread_within k f b = last_spread f.spread (parts k f b).spread

-- ---- how far prices reach

price_reach : (n : ℕ) (v : ℤ) → price_lawful v ≡ true → nat_abs v ≤ reach n
price_reach n v h = let b = price_bound v h in omega arith

within_reach : (n : ℕ) (v : Option ℤ) → side_lawful v ≡ true → InReach n v
within_reach n None h = tt
within_reach n (Some v) h = price_reach n v h

last_reach : (n : ℕ) (o : Option (Last ℤ)) → last_if price_lawful o ≡ true → InReach n (last_value o)
last_reach n None h = tt
last_reach n (Some l) h = price_reach n l.value h

-- a number less than a tick past the price limit is in reach
past_the_limit : (z : ℤ) (n : ℕ) → negsuc 1000999999 ≤ℤ z → z ≤ℤ pos 1001000000 → nat_abs z ≤ reach n
past_the_limit z n low high = omega (arith, ints)

-- rounding passes a price within the limit by less than a tick
above_reach : (P : ℤ → Bool) → ((z : ℤ) → Near P z) → (n : ℕ) (v : ℤ) → within v ≡ true → nat_abs (above_of P v) ≤ reach n
above_reach P near n v e =
    let range = within_range v e in
    let next = near v in
    let is = above_of_is P near v in
    let least = is.least next.price next.on next.from in
    let to = next.to in
    let low = is.reaches in
    let from = range.0 in
    let up = range.1 in
    past_the_limit (above_of P v) n (omega (arith, ints)) (omega (arith, ints))

below_reach : (P : ℤ → Bool) → ((z : ℤ) → Near P z) → (n : ℕ) (v : ℤ) → within v ≡ true → nat_abs (below_of P v) ≤ reach n
below_reach P near n v e =
    let range = within_range v e in
    let next = near (v -ℤ pos 999999) in
    let is = below_of_is P near v in
    let to = next.to in
    let greatest = is.greatest next.price next.on (omega (arith, ints)) in
    let from = next.from in
    let high = is.reaches in
    let low = range.0 in
    let up = range.1 in
    past_the_limit (below_of P v) n (omega (arith, ints)) (omega (arith, ints))

nearest_reach : (P : ℤ → Bool) → ((z : ℤ) → Near P z) → (n : ℕ) (num : ℤ) (d : ℕ) → InReach n (nearest_price P num d)
unfolding nearest_of
nearest_reach P near n num d =
    cond_both (inside num d) (Some (nearest_of P num d)) None (InReach n)
    (λ e. cond_both (le_z ((above_of P (ceiling num d) *ℤ pos d) -ℤ num) (num -ℤ (below_of P (floor num d) *ℤ pos d))) (above_of P (ceiling num d)) (below_of P (floor num d)) (λ p. nat_abs p ≤ reach n)
    (λ _. above_reach P near n (ceiling num d) (ceiling_within num d e))
    (λ _. below_reach P near n (floor num d) (floor_within num d e)))
    (λ e. tt)

quote_reach : (P : ℤ → Bool) → ((z : ℤ) → Near P z) → (n : ℕ) (q : Option Sides) → InReach n (quoted P q)
quote_reach P near n None = tt
quote_reach P near n (Some q) = sides q.bid q.ask
  where
    sides : (b a : Option ℤ) → InReach n (middle P b a)
    sides None a = tt
    sides (Some b) None = tt
    sides (Some b) (Some a) = nearest_reach P near n (b +ℤ a) 2

theory_reach : (P : ℤ → Bool) → ((z : ℤ) → Near P z) → (n : ℕ) (v : Option ℤ) → InReach n (nearest_theory P v) × InReach n (above_theory P v)
theory_reach P near n None = (tt, tt)
theory_reach P near n (Some v) =
    (nearest_reach P near n v 1, cond_both (within v) (Some (above_of P v)) None (InReach n) (λ e. above_reach P near n v e) (λ e. tt))

-- a spread takes a reference's price no further than the next reach
less_reach : (n : ℕ) (p v : Option ℤ) → InReachBefore n p → IfSome v (λ d. spread_lawful d ≡ true) → InReach n (less p v)
less_reach n None v h k = tt
less_reach n (Some p) None h k = tt
less_reach n (Some p) (Some v) h k = let b = spread_bound v k in let d = abs_less p v in omega arith
  where
    spread_bound : (v : ℤ) → spread_lawful v ≡ true → nat_abs v ≤ 100000000
    spread_bound v h = grind (arith, ints)

    abs_less : (a b : ℤ) → nat_abs (a -ℤ b) ≤ nat_abs a + nat_abs b
    abs_less a b = omega (arith, ints)

before_reach : (n : ℕ) (p : Option ℤ) → InReachBefore n p → InReach n p
before_reach n None h = tt
before_reach n (Some p) h = omega arith

ruling_reach : (n : ℕ) (r : Option rulings.Ruling) → lawful_ruling r ≡ true → InReach n (ruled r)
ruling_reach n None h = tt
ruling_reach n (Some r) h = price_reach n r.value h

-- whatever a step finds is in reach, where the reference's price is a spread short of it
pub price_found_reach : (P : ℤ → Bool) → ((z : ℤ) → Near P z) → (n k : ℕ) (p : Option ℤ) (s : Series) (f : Figures) (step : Step) → lawful_series n s ≡ true → InReachBefore n p → bounded k f ≡ true → InReach n (price_found P p s f step)
price_found_reach P near n k p s f Auction h r b = last_reach n f.auction (parts k f b).auction
price_found_reach P near n k p s f Trade h r b = last_reach n f.trade (parts k f b).trade
price_found_reach P near n k p s f Quote h r b = quote_reach P near n (last_value f.quote)
price_found_reach P near n k p s f Average h r b = nearest_reach P near n f.money (nat_abs f.lots)
price_found_reach P near n k p s f Theory h r b = (theory_reach P near n s.theory).0
price_found_reach P near n k p s f TheoryUp h r b = (theory_reach P near n s.theory).1
price_found_reach P near n k p s f Spread h r b = less_reach n p (last_value f.spread) r (last_spread_within k f b)
price_found_reach P near n k p s f PreviousSpread h r b = less_reach n p s.terms.previous_spread r (previous_spread_within n s h)
price_found_reach P near n k p s f Copy h r b = before_reach n p r
price_found_reach P near n k p s f Previous h r b = within_reach n s.terms.previous_settlement (series_parts n s h).previous_settlement
price_found_reach P near n k p s f Ruling h r b = ruling_reach n s.ruling (series_parts n s h).ruling

-- and so is that price with a time
pub timed_reach : (n : ℕ) (price time : Option ℤ) → InReach n price → TimedInReach n (timed price time)
timed_reach n None time h = tt
timed_reach n (Some p) time h = h

-- a ruling that stands with the first mark is the answer, and within the limit
pub ruled_at_once : (n : ℕ) (s : Series) (r : rulings.Ruling) (more : Answer) → lawful_series n s ≡ true → s.ruling ≡ Some r → r.first ≡ true → (Ok (record { price = r.value; step = Ruling; place = 0; time = None }) ≡ ruled_first s.ruling more) × (nat_abs r.value ≤ reach n)
ruled_at_once n s r more h is first =
    let lawful : lawful_ruling (Some r) ≡ true = ap lawful_ruling (sym is) ∙ (series_parts n s h).ruling in
    let taken = cond-true r.first (Ok (record { price = r.value; step = Ruling; place = 0; time = None })) more first in
    (sym (ap (λ o. ruled_first o more) is ∙ taken), price_reach n r.value lawful)
