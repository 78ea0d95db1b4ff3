-- Raised stations have answers that are not lower.
use Rattle.std.proofs.Common.{◌≡◌, ℕ, ◌+◌, ◌<◌, Bool, true, false, cond, ◌&&◌, ltb, List, [], ◌∷◌, ℤ, ◌+ℤ◌, nat_abs, ◌≤ℤ◌, Some, None, Ok, Err, Option, sym, refl, ap, ◌∙◌, subst, true≢false, arith}
use mathlib.Core.Bool.{false≢true}
use Rattle.std.specs.List.{AllZip, AllByRecursion}
use Rattle.std.proofs.lemmas.Int.{ints}
use Rattle.std.proofs.lemmas.Bool.{and_parts}
use Rattle.book.specs.Bounds.{bounded, last_if, sides_lawful}
use Rattle.book.specs.Entries.{side_lawful, uncrossed}
use Rattle.book.specs.declared.figures.Figures.{Figures}
use Rattle.book.specs.declared.figures.Last.{Last}
use Rattle.book.specs.declared.figures.Sides.{Sides}
use Rattle.book.specs.Growth.{parts}
use Rattle.house.proofs.Looked.{series_parts}
use Rattle.ladders.specs.Fractions.{inside, floor, ceiling}
use Rattle.ladders.specs.Prices.{within}
use Rattle.ladders.specs.Rounding.{Near, Nearest}
use Rattle.ladders.specs.Values.{above_of, below_of, closer_of, nearest_of, nearest_price}
use Rattle.ladders.proofs.Nearest.{above_of_is, below_of_is, closer_is_nearest, inside_range, nearest_rises, nearest_value}
use Rattle.ladders.specs.Orders.{above_rises}
use Rattle.ladders.specs.Products.{times_rises}
use Rattle.rows.specs.Chosen.{chosen}
use Rattle.rows.specs.Rows.{row}
use Rattle.rows.specs.declared.places.Edition.{Edition}
use Rattle.rows.specs.declared.places.Place.{Place}
use Rattle.rows.specs.declared.steps.Step.{Step}
use Rattle.rows.specs.declared.steps.Step.TheVariants.{Auction, Trade, Quote, Average, Theory, TheoryUp, Spread, PreviousSpread, Copy, Previous, Ruling}
use Rattle.house.specs.Answers.{Answer, answered, by_row, first_found, or_later, or_refused, origin, origin_of, price_of, row_of, ruled_first, path_answer, some_refers, time_of}
use Rattle.rows.specs.Codes.{window_number}
use Rattle.house.specs.Found.{Station, above_theory, average, price_found, found, last_stamp, last_value, less, middle, nearest_theory, place_time, quoted, ruled, time_found, timed}
use Rattle.house.specs.declared.answers.Settlement.{Settlement}
use Rattle.house.specs.declared.answers.TimedPrice.{TimedPrice}
use Rattle.house.specs.declared.series.Ruling as rulings
use Rattle.house.specs.declared.series.Series.{Series}
use Rattle.runs.specs.Raised.{RulingBy, SeriesRaised}
use Rattle.runs.specs.Relations.{Matched, Relation}
use Rattle.runs.specs.Laws.{NotLower}
use Rattle.runs.proofs.Along.{LawfulPair, StationLawful, along, lawful_pairs}
use Rattle.runs.proofs.Inside.{average_inside, middle_inside, whole_inside}
use Rattle.runs.proofs.RaisedFigures.{FiguresRaised, LastMatched, SidesRaised, ValueRaised}

abbrev RulingRaised : Relation rulings.Ruling
RulingRaised = RulingBy ◌≤ℤ◌

-- the same number, a raised series, and raised figures in each window
pub record StationRaised (x y : Station) : Type 0 where
  pub number : x.number ≡ y.number
  pub series : SeriesRaised x.series y.series
  pub figures : (w : ℕ) → FiguresRaised (x.figures w) (y.figures w)

-- ---- what one step finds

last_value_raised : {V : Type 0} (R : Relation V) (o p : Option (Last V)) → LastMatched R o p → Matched R (last_value o) (last_value p)
last_value_raised R None None h = tt
last_value_raised R None (Some p) h = h
last_value_raised R (Some o) None h = h
last_value_raised R (Some o) (Some p) h = h.1

same_last_stamp : {V : Type 0} (R : Relation V) (o p : Option (Last V)) → LastMatched R o p → last_stamp o ≡ last_stamp p
same_last_stamp R None None h = refl
same_last_stamp R None (Some p) h = absurd h
same_last_stamp R (Some o) None h = absurd h
same_last_stamp R (Some o) (Some p) h = ap Some h.0

less_raised : (r q s : Option ℤ) → ValueRaised r q → ValueRaised (less r s) (less q s)
less_raised None None s rise = tt
less_raised None (Some q) s rise = absurd rise
less_raised (Some r) None s rise = absurd rise
less_raised (Some r) (Some q) None rise = tt
less_raised (Some r) (Some q) (Some v) rise = omega (arith, ints)

ruled_raised : (r q : Option rulings.Ruling) → Matched RulingRaised r q → ValueRaised (ruled r) (ruled q)
ruled_raised None None rise = tt
ruled_raised None (Some q) rise = absurd rise
ruled_raised (Some r) None rise = absurd rise
ruled_raised (Some r) (Some q) rise = rise.value

module _ (P : ℤ → Bool) (near : (z : ℤ) → Near P z) where
  nearest_of_is : (n : ℤ) (d : ℕ) → 0 < d → Nearest P n d (nearest_of P n d)
  nearest_of_is n d h =
      let closest = closer_is_nearest P n d (below_of P (floor n d)) (above_of P (ceiling n d)) h (below_of_is P near (floor n d))
      (above_of_is P near (ceiling n d)) in
      subst (Nearest P n d)
      (nearest_value P near n d (closer_of n d (below_of P (floor n d)) (above_of P (ceiling n d))) h closest) closest

  -- of two fractions over the same number, both inside the limit or both not
  nearest_raised : (n m : ℤ) (d : ℕ) → inside n d ≡ inside m d → n ≤ℤ m → ValueRaised (nearest_price P n d) (nearest_price P m d)
  nearest_raised n m d same rise = by (inside n d) (inside m d) refl same
    where
      by : (b c : Bool) → inside n d ≡ b → b ≡ c
          → ValueRaised (cond b (Some (nearest_of P n d)) None) (cond c (Some (nearest_of P m d)) None)
      by true true e s =
          let some = (inside_range n d e).0 in
          nearest_rises P P (λ z. refl) n m d d (nearest_of P n d) (nearest_of P m d) some some (nearest_of_is n d some)
          (nearest_of_is m d some) (times_rises n m d rise)
      by true false e s = absurd (true≢false s)
      by false true e s = absurd (false≢true s)
      by false false e s = tt

  middle_raised : (b a c z : Option ℤ) → side_lawful b ≡ true → side_lawful a ≡ true → side_lawful c ≡ true → side_lawful z ≡ true
      → ValueRaised b c → ValueRaised a z → ValueRaised (middle P b a) (middle P c z)
  middle_raised None a None z lb la lc lz bid ask = tt
  middle_raised None a (Some c) z lb la lc lz bid ask = absurd bid
  middle_raised (Some b) a None z lb la lc lz bid ask = absurd bid
  middle_raised (Some b) None (Some c) None lb la lc lz bid ask = tt
  middle_raised (Some b) None (Some c) (Some z) lb la lc lz bid ask = absurd ask
  middle_raised (Some b) (Some a) (Some c) None lb la lc lz bid ask = absurd ask
  middle_raised (Some b) (Some a) (Some c) (Some z) lb la lc lz bid ask =
      nearest_raised (b +ℤ a) (c +ℤ z) 2 (middle_inside b a lb la ∙ sym (middle_inside c z lc lz)) (omega (arith, ints))

  quoted_raised : (q r : Option (Last Sides)) → last_if sides_lawful q ≡ true → last_if sides_lawful r ≡ true → LastMatched SidesRaised q r
      → ValueRaised (quoted P (last_value q)) (quoted P (last_value r))
  quoted_raised None None l m rise = tt
  quoted_raised None (Some r) l m rise = absurd rise
  quoted_raised (Some q) None l m rise = absurd rise
  quoted_raised (Some q) (Some r) l m rise =
      let one = q.value in
      let other = r.value in
      let left = and_parts (side_lawful one.bid) (side_lawful one.ask) (and_parts (side_lawful one.bid && side_lawful one.ask) (uncrossed one.bid one.ask) l).0 in
      let right = and_parts (side_lawful other.bid) (side_lawful other.ask) (and_parts (side_lawful other.bid && side_lawful other.ask) (uncrossed other.bid other.ask) m).0 in
      middle_raised one.bid one.ask other.bid other.ask left.0 left.1 right.0 right.1 rise.1.bid rise.1.ask

  average_raised : (k l : ℕ) (f g : Figures) → bounded k f ≡ true → bounded l g ≡ true → FiguresRaised f g
      → ValueRaised (average P f.money f.lots) (average P g.money g.lots)
  average_raised k l f g h m rise =
      subst (λ (n : ℤ). ValueRaised (average P f.money f.lots) (average P g.money n)) rise.lots
      (nearest_raised f.money g.money (nat_abs f.lots) (average_inside k f h ∙ sym alike) rise.money)
    where
      alike : inside g.money (nat_abs f.lots) ≡ ltb 0 (nat_abs f.lots)
      alike = subst (λ (n : ℤ). inside g.money (nat_abs n) ≡ ltb 0 (nat_abs n)) (sym rise.lots) (average_inside l g m)

  nearest_theory_raised : (v w : Option ℤ) → side_lawful v ≡ true → side_lawful w ≡ true → ValueRaised v w
      → ValueRaised (nearest_theory P v) (nearest_theory P w)
  nearest_theory_raised None None l m rise = tt
  nearest_theory_raised None (Some w) l m rise = absurd rise
  nearest_theory_raised (Some v) None l m rise = absurd rise
  nearest_theory_raised (Some v) (Some w) l m rise = nearest_raised v w 1 (whole_inside v l ∙ sym (whole_inside w m)) rise

  above_theory_raised : (v w : Option ℤ) → side_lawful v ≡ true → side_lawful w ≡ true → ValueRaised v w
      → ValueRaised (above_theory P v) (above_theory P w)
  above_theory_raised None None l m rise = tt
  above_theory_raised None (Some w) l m rise = absurd rise
  above_theory_raised (Some v) None l m rise = absurd rise
  above_theory_raised (Some v) (Some w) l m rise = by (within v) (within w) l m
    where
      by : (b c : Bool) → b ≡ true → c ≡ true
          → ValueRaised (cond b (Some (above_of P v)) None) (cond c (Some (above_of P w)) None)
      by true true p q =
          above_rises P P (λ z. refl) v w (above_of P v) (above_of P w) (above_of_is P near v) (above_of_is P near w) rise
      by true false p q = absurd (false≢true q)
      by false c p q = absurd (false≢true p)

  -- each step finds a price in both or in neither, and no lower one
  price_found_raised : (r q : Option ℤ) (s t : Series) (f g : Figures) (k l : ℕ) → side_lawful s.theory ≡ true
      → side_lawful t.theory ≡ true → bounded k f ≡ true → bounded l g ≡ true → ValueRaised r q → SeriesRaised s t
      → FiguresRaised f g → (step : Step) → ValueRaised (price_found P r s f step) (price_found P q t g step)
  price_found_raised r q s t f g k l ls lt lf lg reference series figures Auction =
      last_value_raised ◌≤ℤ◌ f.auction g.auction figures.auction
  price_found_raised r q s t f g k l ls lt lf lg reference series figures Trade = last_value_raised ◌≤ℤ◌ f.trade g.trade figures.trade
  price_found_raised r q s t f g k l ls lt lf lg reference series figures Quote =
      quoted_raised f.quote g.quote (parts k f lf).quote (parts l g lg).quote figures.quote
  price_found_raised r q s t f g k l ls lt lf lg reference series figures Average = average_raised k l f g lf lg figures
  price_found_raised r q s t f g k l ls lt lf lg reference series figures Theory =
      nearest_theory_raised s.theory t.theory ls lt series.theory
  price_found_raised r q s t f g k l ls lt lf lg reference series figures TheoryUp =
      above_theory_raised s.theory t.theory ls lt series.theory
  price_found_raised r q s t f g k l ls lt lf lg reference series figures Spread =
      subst (λ (o : Option (Last ℤ)). ValueRaised (less r (last_value f.spread)) (less q (last_value o))) figures.spread
      (less_raised r q (last_value f.spread) reference)
  price_found_raised r q s t f g k l ls lt lf lg reference series figures PreviousSpread =
      subst (λ (o : Option ℤ). ValueRaised (less r s.terms.previous_spread) (less q o)) series.previous_spread
      (less_raised r q s.terms.previous_spread reference)
  price_found_raised r q s t f g k l ls lt lf lg reference series figures Copy = reference
  price_found_raised r q s t f g k l ls lt lf lg reference series figures Previous = series.previous_settlement
  price_found_raised r q s t f g k l ls lt lf lg reference series figures Ruling = ruled_raised s.ruling t.ruling series.ruling

-- each step has the same time in both
same_time : (u v : Option ℤ) (f g : Figures) → u ≡ v → FiguresRaised f g → (step : Step) → time_found u f step ≡ time_found v g step
same_time u v f g same rise Auction = same_last_stamp ◌≤ℤ◌ f.auction g.auction rise.auction
same_time u v f g same rise Trade = same_last_stamp ◌≤ℤ◌ f.trade g.trade rise.trade
same_time u v f g same rise Quote = same_last_stamp SidesRaised f.quote g.quote rise.quote
same_time u v f g same rise Average = same_last_stamp ◌≤ℤ◌ f.trade g.trade rise.trade
same_time u v f g same rise Theory = refl
same_time u v f g same rise TheoryUp = refl
same_time u v f g same rise Spread = ap last_stamp rise.spread
same_time u v f g same rise PreviousSpread = refl
same_time u v f g same rise Copy = same
same_time u v f g same rise Previous = refl
same_time u v f g same rise Ruling = refl

-- a price that is not lower, at the same time
abbrev TimedRaised : Relation TimedPrice
TimedRaised v w = (v.time ≡ w.time) × (v.price ≤ℤ w.price)

timed_raised : (v w t u : Option ℤ) → ValueRaised v w → t ≡ u → Matched TimedRaised (timed v t) (timed w u)
timed_raised None None t u rise same = tt
timed_raised None (Some w) t u rise same = rise
timed_raised (Some v) None t u rise same = rise
timed_raised (Some v) (Some w) t u rise same = (same, rise)

-- ---- one row

abbrev SettlementRaised : Relation Settlement
SettlementRaised s t = (s.step ≡ t.step) × (s.place ≡ t.place) × (s.time ≡ t.time) × (s.price ≤ℤ t.price)

first_raised : (f g : Place → Option TimedPrice) → ((p : Place) → Matched TimedRaised (f p) (g p)) → (k : ℕ) (ps : List Place)
    → Matched SettlementRaised (first_found f k ps) (first_found g k ps)
first_raised f g rise k [] = tt
first_raised f g rise k (p ∷ ps) = by (f p) (g p) (first_raised f g rise (k + 1) ps) (rise p)
  where
    by : (v w : Option TimedPrice) → Matched SettlementRaised (first_found f (k + 1) ps) (first_found g (k + 1) ps) → Matched TimedRaised v w
        → Matched SettlementRaised (or_later v p.step k (first_found f (k + 1) ps))
        (or_later w p.step k (first_found g (k + 1) ps))
    by None None later h = later
    by None (Some w) later h = absurd h
    by (Some v) None later h = absurd h
    by (Some v) (Some w) later h = (refl, refl, h.0, h.1)

or_refused_raised : (s t : Option Settlement) (o p : ℕ) → Matched SettlementRaised s t → o ≡ p
    → NotLower (or_refused s o) (or_refused t p)
or_refused_raised None None o p h same = same
or_refused_raised None (Some t) o p h same = absurd h
or_refused_raised (Some s) None o p h same = absurd h
or_refused_raised (Some s) (Some t) o p h same = h

ruled_first_raised : (r q : Option rulings.Ruling) (a b : Answer) → Matched RulingRaised r q → NotLower a b
    → NotLower (ruled_first r a) (ruled_first q b)
ruled_first_raised None None a b rise h = h
ruled_first_raised None (Some q) a b rise h = absurd rise
ruled_first_raised (Some r) None a b rise h = absurd rise
ruled_first_raised (Some r) (Some q) a b rise h = by r.first q.first rise.first
  where
    by : (c d : Bool) → c ≡ d
        → NotLower (cond c (Ok (record { price = r.value; step = Ruling; place = 0; time = None })) a) (cond d (Ok (record { price = q.value; step = Ruling; place = 0; time = None })) b)
    by true true e = (refl, refl, refl, rise.value)
    by true false e = absurd (true≢false e)
    by false true e = absurd (false≢true e)
    by false false e = h

-- ---- the reference

price_raised : (u v : Option Answer) → Matched NotLower u v → ValueRaised (price_of u) (price_of v)
price_raised None None h = tt
price_raised None (Some b) h = absurd h
price_raised (Some a) None h = absurd h
price_raised (Some (Ok s)) (Some (Ok t)) h = h.3
price_raised (Some (Ok s)) (Some (Err p)) h = absurd h
price_raised (Some (Err o)) (Some (Ok t)) h = absurd h
price_raised (Some (Err o)) (Some (Err p)) h = tt

same_time_of : (u v : Option Answer) → Matched NotLower u v → time_of u ≡ time_of v
same_time_of None None h = refl
same_time_of None (Some b) h = absurd h
same_time_of (Some a) None h = absurd h
same_time_of (Some (Ok s)) (Some (Ok t)) h = h.2
same_time_of (Some (Ok s)) (Some (Err p)) h = absurd h
same_time_of (Some (Err o)) (Some (Ok t)) h = absurd h
same_time_of (Some (Err o)) (Some (Err p)) h = refl

origin_of_raised : (n : ℕ) (u v : Option Answer) → Matched NotLower u v → origin_of n u ≡ origin_of n v
origin_of_raised n None None h = refl
origin_of_raised n None (Some b) h = absurd h
origin_of_raised n (Some a) None h = absurd h
origin_of_raised n (Some (Ok s)) (Some (Ok t)) h = refl
origin_of_raised n (Some (Ok s)) (Some (Err p)) h = absurd h
origin_of_raised n (Some (Err o)) (Some (Ok t)) h = absurd h
origin_of_raised n (Some (Err o)) (Some (Err p)) h = h

-- ---- one station

module _ (P : ℕ → ℤ → Bool) (near : (n : ℕ) (z : ℤ) → Near (P n) z) (ed : Edition) where
  same_row : (s t : Series) → SeriesRaised s t → row_of s ed ≡ row_of t ed
  same_row s t rise = λ i. row (rise.family i) (chosen (rise.family i) (rise.marks i) ed)

  found_raised : (x y : Station) (r q t u : Option ℤ) → LawfulPair StationRaised x y → ValueRaised r q → t ≡ u → (p : Place)
      → Matched TimedRaised (found P r t x p) (found P q u y p)
  found_raised x y r q t u (lx, ly, rise) reference same p =
      let w = window_number p.window in
      timed_raised _ _ (place_time t x p) (place_time u y p)
      (subst (λ (n : ℕ). ValueRaised (price_found (P x.series.terms.ladder) r x.series (x.figures w) p.step) (price_found (P n) q y.series (y.figures w) p.step)) rise.series.ladder
      (price_found_raised (P x.series.terms.ladder) (near x.series.terms.ladder) r q x.series y.series (x.figures w) (y.figures w)
      (lx.figures w).0 (ly.figures w).0
      (series_parts x.number x.series lx.series).theory (series_parts y.number y.series ly.series).theory (lx.figures w).1
      (ly.figures w).1
      reference rise.series (rise.figures w) p.step))
      (same_time t u (x.figures w) (y.figures w) same (rise.figures w) p.step)

  origin_raised : (x y : Station) (u v : Option Answer) → StationRaised x y → Matched NotLower u v → origin ed x u ≡ origin ed y v
  origin_raised x y u v rise h =
      (λ i. cond (some_refers (same_row x.series y.series rise.series i)) (origin_of_raised x.number u v h i) x.number)
      ∙ (λ i. cond (some_refers (row_of y.series ed)) (origin_of (rise.number i) v) (rise.number i))

  answered_raised : (x y : Station) (u v : Option Answer) → LawfulPair StationRaised x y → Matched NotLower u v
      → NotLower (answered P ed x u) (answered P ed y v)
  answered_raised x y u v pair h =
      let rise = pair.2 in
      ruled_first_raised x.series.ruling y.series.ruling (by_row P ed x u) (by_row P ed y v) rise.series.ruling
      (or_refused_raised (first_found (found P (price_of u) (time_of u) x) 1 (row_of x.series ed))
      (first_found (found P (price_of v) (time_of v) y) 1 (row_of y.series ed)) (origin ed x u) (origin ed y v)
      (subst (λ (ps : List Place). Matched SettlementRaised (first_found (found P (price_of u) (time_of u) x) 1 (row_of x.series ed))
      (first_found (found P (price_of v) (time_of v) y) 1 ps)) (same_row x.series y.series rise.series)
      (first_raised (found P (price_of u) (time_of u) x) (found P (price_of v) (time_of v) y)
      (found_raised x y (price_of u) (price_of v) (time_of u) (time_of v) pair (price_raised u v h) (same_time_of u v h)) 1 (row_of x.series ed)))
      (origin_raised x y u v rise h))

  -- raised stations settle together, at the same step, place and time and at no lower price, or are refused from the same series
  pub raised_answers : (x y : Station) (xs ys : List Station) → AllByRecursion StationLawful (x ∷ xs)
      → AllByRecursion StationLawful (y ∷ ys) → AllZip StationRaised (x ∷ xs) (y ∷ ys)
      → NotLower (path_answer P ed x xs) (path_answer P ed y ys)
  raised_answers x y xs ys l m rise =
      along P ed (LawfulPair StationRaised) NotLower answered_raised x y xs ys
      (lawful_pairs StationRaised (x ∷ xs) (y ∷ ys) l m rise)
