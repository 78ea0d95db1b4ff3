-- Stations with more figures have answers at no later a place.
use Rattle.std.proofs.Common.{◌≡◌, ℕ, ◌+◌, ◌≤◌, Bool, true, false, cond, List, [], ◌∷◌, ℤ, nat_abs, ◌≤ℤ◌, is_some, Some, None, Ok, Err, Option, sym, refl, ap, ◌∙◌, subst, arith}
use mathlib.Core.Bool.{false≢true}
use Rattle.std.specs.List.{AllZip, AllByRecursion}
use Rattle.std.proofs.lemmas.Int.{ints}
use Rattle.std.proofs.lemmas.Bool.{lt-ltb, ltb-true}
use Rattle.book.specs.Bounds.{bounded}
use Rattle.book.specs.declared.figures.Figures.{Figures}
use Rattle.book.specs.declared.figures.Last.{Last}
use Rattle.book.specs.Growth.{parts}
use Rattle.ladders.specs.Fractions.{inside}
use Rattle.ladders.specs.Values.{nearest_of, nearest_price}
use Rattle.rows.specs.declared.places.Edition.{Edition}
use Rattle.rows.specs.declared.places.Place.{Place}
use Rattle.rows.specs.declared.steps.Step.{Step}
use Rattle.rows.specs.declared.steps.Step.TheVariants.{Auction, Trade, Quote, Average, Theory, TheoryUp, Spread, PreviousSpread, Copy, Previous, Ruling}
use Rattle.house.specs.Answers.{Answer, answered, by_row, first_found, or_later, or_refused, origin, price_of, row_of, ruled_first, path_answer, time_of}
use Rattle.rows.specs.Codes.{window_number}
use Rattle.house.specs.Found.{Station, average, price_found, found, last_value, less, place_time, quoted, timed}
use Rattle.house.specs.declared.answers.Settlement.{Settlement}
use Rattle.house.specs.declared.answers.TimedPrice.{TimedPrice}
use Rattle.house.specs.declared.series.Ruling as rulings
use Rattle.house.specs.declared.series.Series.{Series}
use Rattle.runs.specs.Relations.{Matched, Relation}
use Rattle.runs.specs.Laws.{NoLater}
use Rattle.runs.proofs.AddedFigures.{FiguresMore, StillThere}
use Rattle.runs.proofs.Along.{LawfulPair, StationLawful, along, lawful_pairs}
use Rattle.runs.proofs.Inside.{average_inside}

-- the same number and series, and in each window no fewer figures
pub record StationMore (x y : Station) : Type 0 where
  pub number : x.number ≡ y.number
  pub series : x.series ≡ y.series
  pub figures : (w : ℕ) → FiguresMore (x.figures w) (y.figures w)

-- ---- what one step finds

some_nearest : (P : ℤ → Bool) (n : ℤ) (d : ℕ) → is_some (nearest_price P n d) ≡ inside n d
some_nearest P n d = by (inside n d)
  where
    by : (b : Bool) → is_some (cond b (Some (nearest_of P n d)) None) ≡ b
    by true = refl
    by false = refl

-- where there are lots, more lots leave an average
average_more : (P : ℤ → Bool) (k l : ℕ) (f g : Figures) → bounded k f ≡ true → bounded l g ≡ true → f.lots ≤ℤ g.lots
    → StillThere (average P f.money f.lots) (average P g.money g.lots)
average_more P k l f g h m more there =
    let some = ltb-true 0 (nat_abs f.lots)
    (sym (average_inside k f h) ∙ (sym (some_nearest P f.money (nat_abs f.lots)) ∙ there)) in
    let none_negative = (parts k f h).lots_from in
    some_nearest P g.money (nat_abs g.lots) ∙ (average_inside l g m ∙ lt-ltb 0 (nat_abs g.lots) (omega (arith, ints)))

less_more : (r q s t : Option ℤ) → StillThere r q → StillThere s t → StillThere (less r s) (less q t)
less_more None q s t h m there = absurd (false≢true there)
less_more (Some r) q None t h m there = absurd (false≢true there)
less_more (Some r) None (Some s) t h m there = h refl
less_more (Some r) (Some q) (Some s) None h m there = m refl
less_more (Some r) (Some q) (Some s) (Some t) h m there = refl

last_value_more : {V : Type 0} (o p : Option (Last V)) → StillThere o p → StillThere (last_value o) (last_value p)
last_value_more None p h there = absurd (false≢true there)
last_value_more (Some o) None h there = h refl
last_value_more (Some o) (Some p) h there = refl

-- a step that finds a price in the first finds one in the second
price_found_more : (P : ℤ → Bool) (r q : Option ℤ) (s : Series) (f g : Figures) (k l : ℕ) → bounded k f ≡ true → bounded l g ≡ true
    → StillThere r q → FiguresMore f g → (step : Step) → StillThere (price_found P r s f step) (price_found P q s g step)
price_found_more P r q s f g k l lf lg reference more Auction = last_value_more f.auction g.auction more.auction
price_found_more P r q s f g k l lf lg reference more Trade = last_value_more f.trade g.trade more.trade
price_found_more P r q s f g k l lf lg reference more Quote =
    subst (λ (o : Bool). is_some (quoted P (last_value f.quote)) ≡ true → o ≡ true)
    (ap (λ o. is_some (quoted P (last_value o))) more.quote)
    (λ there. there)
price_found_more P r q s f g k l lf lg reference more Average = average_more P k l f g lf lg more.lots
price_found_more P r q s f g k l lf lg reference more Theory = λ there. there
price_found_more P r q s f g k l lf lg reference more TheoryUp = λ there. there
price_found_more P r q s f g k l lf lg reference more Spread =
    less_more r q (last_value f.spread) (last_value g.spread) reference (last_value_more f.spread g.spread more.spread)
price_found_more P r q s f g k l lf lg reference more PreviousSpread =
    less_more r q s.terms.previous_spread s.terms.previous_spread reference (λ there. there)
price_found_more P r q s f g k l lf lg reference more Copy = reference
price_found_more P r q s f g k l lf lg reference more Previous = λ there. there
price_found_more P r q s f g k l lf lg reference more Ruling = λ there. there

-- and so with whatever times
timed_more : (v w t u : Option ℤ) → StillThere v w → StillThere (timed v t) (timed w u)
timed_more None w t u h there = absurd (false≢true there)
timed_more (Some v) None t u h there = h refl
timed_more (Some v) (Some w) t u h there = refl

-- ---- one row

-- where the first row finds, the second finds at no later a place
abbrev FoundNoLater : Relation (Option Settlement)
FoundNoLater None o = Unit {0}
FoundNoLater (Some s) None = ⊥
FoundNoLater (Some s) (Some t) = t.place ≤ s.place

-- found at the place k or later, if at all
abbrev From : ℕ → Option Settlement → Type 0
From k None = Unit {0}
From k (Some s) = k ≤ s.place

first_from : (f : Place → Option TimedPrice) (j k : ℕ) (ps : List Place) → j ≤ k → From j (first_found f k ps)
first_from f j k [] h = tt
first_from f j k (p ∷ ps) h = by (f p) (first_from f j (k + 1) ps (omega arith))
  where
    by : (v : Option TimedPrice) → From j (first_found f (k + 1) ps) → From j (or_later v p.step k (first_found f (k + 1) ps))
    by None later = later
    by (Some v) later = h

first_more : (f g : Place → Option TimedPrice) → ((p : Place) → StillThere (f p) (g p)) → (k : ℕ) (ps : List Place)
    → FoundNoLater (first_found f k ps) (first_found g k ps)
first_more f g more k [] = tt
first_more f g more k (p ∷ ps) =
    by (f p) (g p) (first_found f (k + 1) ps) (more p) (first_more f g more (k + 1) ps) (first_from f k (k + 1) ps (omega arith))
  where
    by : (v w : Option TimedPrice) (s : Option Settlement) → StillThere v w → FoundNoLater s (first_found g (k + 1) ps) → From k s
        → FoundNoLater (or_later v p.step k s) (or_later w p.step k (first_found g (k + 1) ps))
    by None None s h later from = later
    by None (Some w) None h later from = tt
    by None (Some w) (Some s) h later from = from
    by (Some v) None s h later from = absurd (false≢true (h refl))
    by (Some v) (Some w) s h later from = omega arith

or_refused_more : (s t : Option Settlement) (o p : ℕ) → FoundNoLater s t → NoLater (or_refused s o) (or_refused t p)
or_refused_more None t o p h = tt
or_refused_more (Some s) None o p h = h
or_refused_more (Some s) (Some t) o p h = h

ruled_first_more : (r : Option rulings.Ruling) (a b : Answer) → NoLater a b → NoLater (ruled_first r a) (ruled_first r b)
ruled_first_more None a b h = h
ruled_first_more (Some r) a b h = by r.first
  where
    by : (c : Bool) → NoLater (cond c (Ok (record { price = r.value; step = Ruling; place = 0; time = None })) a) (cond c (Ok (record { price = r.value; step = Ruling; place = 0; time = None })) b)
    by true = omega arith
    by false = h

-- ---- one station

price_more : (u v : Option Answer) → Matched NoLater u v → StillThere (price_of u) (price_of v)
price_more None v h there = absurd (false≢true there)
price_more (Some a) None h there = absurd h
price_more (Some (Ok s)) (Some (Ok t)) h there = refl
price_more (Some (Ok s)) (Some (Err p)) h there = absurd h
price_more (Some (Err o)) (Some b) h there = absurd (false≢true there)

module _ (P : ℕ → ℤ → Bool) (ed : Edition) where
  found_more : (x y : Station) (r q t u : Option ℤ) → LawfulPair StationMore x y → StillThere r q → (p : Place)
      → StillThere (found P r t x p) (found P q u y p)
  found_more x y r q t u (lx, ly, more) reference p =
      let w = window_number p.window in
      timed_more _ _ (place_time t x p) (place_time u y p)
      (subst (λ (s : Series). StillThere (price_found (P x.series.terms.ladder) r x.series (x.figures w) p.step) (price_found (P s.terms.ladder) q s (y.figures w) p.step)) more.series
      (price_found_more (P x.series.terms.ladder) r q x.series (x.figures w) (y.figures w) (lx.figures w).0 (ly.figures w).0
      (lx.figures w).1 (ly.figures w).1 reference (more.figures w) p.step))

  answered_more : (x y : Station) (u v : Option Answer) → LawfulPair StationMore x y → Matched NoLater u v
      → NoLater (answered P ed x u) (answered P ed y v)
  answered_more x y u v pair h =
      let f = found P (price_of u) (time_of u) x in
      let g = found P (price_of v) (time_of v) y in
      subst (λ (s : Series). NoLater (answered P ed x u)
      (ruled_first s.ruling (or_refused (first_found g 1 (row_of s ed)) (origin ed y v)))) pair.2.series
      (ruled_first_more x.series.ruling (by_row P ed x u) (or_refused (first_found g 1 (row_of x.series ed)) (origin ed y v))
      (or_refused_more (first_found f 1 (row_of x.series ed)) (first_found g 1 (row_of x.series ed)) (origin ed x u)
      (origin ed y v)
      (first_more f g (found_more x y (price_of u) (price_of v) (time_of u) (time_of v) pair (price_more u v h)) 1 (row_of x.series ed))))

  -- where stations settle, stations with more figures settle too, at no later a place
  pub more_answers : (x y : Station) (xs ys : List Station) → AllByRecursion StationLawful (x ∷ xs)
      → AllByRecursion StationLawful (y ∷ ys) → AllZip StationMore (x ∷ xs) (y ∷ ys)
      → NoLater (path_answer P ed x xs) (path_answer P ed y ys)
  more_answers x y xs ys l m more =
      along P ed (LawfulPair StationMore) NoLater answered_more x y xs ys (lawful_pairs StationMore (x ∷ xs) (y ∷ ys) l m more)
