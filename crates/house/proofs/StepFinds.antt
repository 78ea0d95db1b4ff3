-- A step finds no two prices, and finds what is computed.
use Rattle.std.proofs.Common.{◌≡◌, ℕ, ◌<◌, Bool, true, cond, ℤ, ◌+ℤ◌, ◌-ℤ◌, nat_abs, Some, None, Option, refl, sym, ap, ◌∙◌, subst}
use Rattle.std.proofs.lemmas.Bool.{cond_both, cond-true}
use Rattle.std.proofs.lemmas.Option.{none-some, same_Some}
use Rattle.book.specs.declared.figures.Figures.{Figures}
use Rattle.book.specs.declared.figures.Last.{Last}
use Rattle.book.specs.declared.figures.Sides.{Sides}
use Rattle.ladders.specs.Fractions.{ceiling, floor, inside}
use Rattle.ladders.specs.Orders.{above_once}
use Rattle.ladders.specs.Prices.{within}
use Rattle.ladders.specs.Rounding.{Above, Near, Nearest}
use Rattle.ladders.specs.Values.{above_of, below_of, nearest_of, nearest_price}
use Rattle.ladders.proofs.Nearest.{above_of_is, above_value, below_of_is, closer_is_nearest, inside_range, nearest_once, nearest_value}
use Rattle.rows.specs.Codes.{window_number}
use Rattle.rows.specs.declared.places.Place.{Place}
use Rattle.rows.specs.declared.steps.Step.{Step}
use Rattle.rows.specs.declared.steps.Step.TheVariants.{Auction, Trade, Quote, Average, Theory, TheoryUp, Spread, PreviousSpread, Copy, Previous, Ruling}
use Rattle.house.specs.FindsPrice.{FindsPrice, HasTime, IsLess, IsNearest, IsNearestMiddle, IsStampOf, PlaceFinds, PlaceHasTime}
use Rattle.house.specs.Found.{Station, above_theory, price_found, found, last_stamp, last_value, less, middle, nearest_theory, place_price, place_time, quoted, ruled, time_found, timed}
use Rattle.house.specs.declared.answers.TimedPrice.{TimedPrice}
use Rattle.house.specs.declared.series.Ruling as rulings
use Rattle.house.specs.declared.series.Series.{Series}

-- ---- no two prices are found

-- no two values stand in one option
same_value : {A : Type 0} (o : Option A) (x y : A) → o ≡ Some x → o ≡ Some y → x ≡ y
same_value o x y h k = same_Some x y (sym h ∙ k)

module _ (P : ℤ → Bool) where
  nearest_middle_once : (quote : Option Sides) (p r : ℤ) → IsNearestMiddle P quote p → IsNearestMiddle P quote r → p ≡ r
  nearest_middle_once quote p r (b, a, h, m) (c, d, k, n) =
      let same = same_value quote (record { bid = Some b; ask = Some a }) (record { bid = Some c; ask = Some d }) h k in
      let bids = same_Some b c (ap (λ (q : Sides). q.bid) same) in
      let asks = same_Some a d (ap (λ (q : Sides). q.ask) same) in
      nearest_once P (c +ℤ d) 2 p r (subst (λ (z : ℤ). Nearest P z 2 p) (λ i. bids i +ℤ asks i) m.1) n.1

  less_once : (reference spread : Option ℤ) (p r : ℤ) → IsLess reference spread p → IsLess reference spread r → p ≡ r
  less_once reference spread p r (a, b, h, k, e) (c, d, l, m, f) =
      let references = same_value reference a c h l in
      let spreads = same_value spread b d k m in
      e ∙ (λ i. references i -ℤ spreads i) ∙ sym f

  finds_once : (u : Option ℤ) (s : Series) (f : Figures) (t : Step) (p r : ℤ) → FindsPrice P u s f t p → FindsPrice P u s f t r → p ≡ r
  finds_once u s f Auction p r h k = same_value (last_value f.auction) p r h k
  finds_once u s f Trade p r h k = same_value (last_value f.trade) p r h k
  finds_once u s f Quote p r h k = nearest_middle_once (last_value f.quote) p r h k
  finds_once u s f Average p r h k = nearest_once P f.money (nat_abs f.lots) p r h.1 k.1
  finds_once u s f Theory p r (a, h, m) (b, k, n) =
      nearest_once P b 1 p r (subst (λ (z : ℤ). Nearest P z 1 p) (same_value s.theory a b h k) m.1) n.1
  finds_once u s f TheoryUp p r (a, h, l, m) (b, k, g, n) =
      above_once P b p r (subst (λ (z : ℤ). Above P z p) (same_value s.theory a b h k) m) n
  finds_once u s f Spread p r h k = less_once u (last_value f.spread) p r h k
  finds_once u s f PreviousSpread p r h k = less_once u s.terms.previous_spread p r h k
  finds_once u s f Copy p r h k = same_value u p r h k
  finds_once u s f Previous p r h k = same_value s.terms.previous_settlement p r h k
  finds_once u s f Ruling p r (a, h, e) (b, k, g) = e ∙ ap (λ (x : rulings.Ruling). x.value) (same_value s.ruling a b h k) ∙ sym g

-- nor two times
stamp_once : {V : Type 0} (o : Option (Last V)) (t u : Option ℤ) → IsStampOf o t → IsStampOf o u → t ≡ u
stamp_once None t u h k = h ∙ sym k
stamp_once (Some l) t u h k = h ∙ sym k

time_once : (v : Option ℤ) (f : Figures) (step : Step) (t u : Option ℤ) → HasTime v f step t → HasTime v f step u → t ≡ u
time_once v f Auction t u h k = stamp_once f.auction t u h k
time_once v f Trade t u h k = stamp_once f.trade t u h k
time_once v f Quote t u h k = stamp_once f.quote t u h k
time_once v f Average t u h k = stamp_once f.trade t u h k
time_once v f Theory t u h k = h ∙ sym k
time_once v f TheoryUp t u h k = h ∙ sym k
time_once v f Spread t u h k = stamp_once f.spread t u h k
time_once v f PreviousSpread t u h k = h ∙ sym k
time_once v f Copy t u h k = h ∙ sym k
time_once v f Previous t u h k = h ∙ sym k
time_once v f Ruling t u h k = h ∙ sym k

pub place_time_once : (v : Option ℤ) (x : Station) (q : Place) (t u : Option ℤ) → PlaceHasTime v x q t → PlaceHasTime v x q u → t ≡ u
place_time_once v x q t u h k = time_once v (x.figures (window_number q.window)) q.step t u h k

pub place_finds_once : (P : ℕ → ℤ → Bool) (u : Option ℤ) (x : Station) (q : Place) (p r : ℤ) → PlaceFinds P u x q p → PlaceFinds P u x q r → p ≡ r
place_finds_once P u x q p r h k = finds_once (P x.series.terms.ladder) u x.series (x.figures (window_number q.window)) q.step p r h k

-- ---- where lawful prices are near everywhere, what is found is what is computed

-- for each kind of step: what is computed is found (`_is`), and what is found is computed (`_value`)
less_is : (reference spread : Option ℤ) (p : ℤ) → less reference spread ≡ Some p → IsLess reference spread p
less_is None spread p h = absurd (none-some p h)
less_is (Some r) None p h = absurd (none-some p h)
less_is (Some r) (Some d) p h = (r, d, refl, refl, sym (same_Some (r -ℤ d) p h))

less_value : (reference spread : Option ℤ) (p : ℤ) → IsLess reference spread p → less reference spread ≡ Some p
less_value reference spread p (r, d, h, k, e) = (λ i. less (h i) (k i)) ∙ ap Some (sym e)

module _ (P : ℤ → Bool) (near : (z : ℤ) → Near P z) where
  nearest_of_is : (n : ℤ) (d : ℕ) → 0 < d → Nearest P n d (nearest_of P n d)
  unfolding nearest_of
  nearest_of_is n d h =
      closer_is_nearest P n d (below_of P (floor n d)) (above_of P (ceiling n d)) h (below_of_is P near (floor n d)) (above_of_is P near (ceiling n d))

  nearest_price_is : (n : ℤ) (d : ℕ) (p : ℤ) → nearest_price P n d ≡ Some p → IsNearest P n d p
  nearest_price_is n d p = cond_both (inside n d) (Some (nearest_of P n d)) None (λ (o : Option ℤ). o ≡ Some p → IsNearest P n d p)
      (λ e h. (e, subst (Nearest P n d) (same_Some (nearest_of P n d) p h) (nearest_of_is n d (inside_range n d e).0)))
      (λ e h. absurd (none-some p h))

  nearest_price_value : (n : ℤ) (d : ℕ) (p : ℤ) → IsNearest P n d p → nearest_price P n d ≡ Some p
  nearest_price_value n d p h =
      cond-true (inside n d) (Some (nearest_of P n d)) None h.0 ∙ ap Some (sym (nearest_value P near n d p (inside_range n d h.0).0 h.1))

  quoted_is : (quote : Option Sides) (p : ℤ) → quoted P quote ≡ Some p → IsNearestMiddle P quote p
  quoted_is None p h = absurd (none-some p h)
  quoted_is (Some q) p h = by q.bid q.ask refl refl h
    where
      by : (b a : Option ℤ) → q.bid ≡ b → q.ask ≡ a → middle P b a ≡ Some p → IsNearestMiddle P (Some q) p
      by None a e f k = absurd (none-some p k)
      by (Some b) None e f k = absurd (none-some p k)
      by (Some b) (Some a) e f k = (b, a, (λ i. Some (record { bid = e i; ask = f i })), nearest_price_is (b +ℤ a) 2 p k)

  quoted_value : (quote : Option Sides) (p : ℤ) → IsNearestMiddle P quote p → quoted P quote ≡ Some p
  quoted_value quote p (b, a, h, m) = ap (quoted P) h ∙ nearest_price_value (b +ℤ a) 2 p m

  above_theory_is : (v p : ℤ) → cond (within v) (Some (above_of P v)) None ≡ Some p → (within v ≡ true) × Above P v p
  above_theory_is v p = cond_both (within v) (Some (above_of P v)) None (λ (o : Option ℤ). o ≡ Some p → (within v ≡ true) × Above P v p)
      (λ e h. (e, subst (Above P v) (same_Some (above_of P v) p h) (above_of_is P near v)))
      (λ e h. absurd (none-some p h))

  above_theory_value : (v p : ℤ) → within v ≡ true → Above P v p → cond (within v) (Some (above_of P v)) None ≡ Some p
  above_theory_value v p e h = cond-true (within v) (Some (above_of P v)) None e ∙ ap Some (sym (above_value P near v p h))

  -- so for every step
  finds_value : (u : Option ℤ) (s : Series) (f : Figures) (t : Step) (p : ℤ) → FindsPrice P u s f t p → price_found P u s f t ≡ Some p
  finds_value u s f Auction p h = h
  finds_value u s f Trade p h = h
  finds_value u s f Quote p h = quoted_value (last_value f.quote) p h
  finds_value u s f Average p h = nearest_price_value f.money (nat_abs f.lots) p h
  finds_value u s f Theory p (a, h, m) = ap (nearest_theory P) h ∙ nearest_price_value a 1 p m
  finds_value u s f TheoryUp p (a, h, e, m) = ap (above_theory P) h ∙ above_theory_value a p e m
  finds_value u s f Spread p h = less_value u (last_value f.spread) p h
  finds_value u s f PreviousSpread p h = less_value u s.terms.previous_spread p h
  finds_value u s f Copy p h = h
  finds_value u s f Previous p h = h
  finds_value u s f Ruling p (a, h, e) = ap ruled h ∙ ap Some (sym e)

  finds_is : (u : Option ℤ) (s : Series) (f : Figures) (t : Step) (p : ℤ) → price_found P u s f t ≡ Some p → FindsPrice P u s f t p
  finds_is u s f Auction p h = h
  finds_is u s f Trade p h = h
  finds_is u s f Quote p h = quoted_is (last_value f.quote) p h
  finds_is u s f Average p h = nearest_price_is f.money (nat_abs f.lots) p h
  finds_is u s f Theory p h = by s.theory refl h
    where
      by : (o : Option ℤ) → s.theory ≡ o → nearest_theory P o ≡ Some p → FindsPrice P u s f Theory p
      by None e k = absurd (none-some p k)
      by (Some a) e k = (a, e, nearest_price_is a 1 p k)
  finds_is u s f TheoryUp p h = by s.theory refl h
    where
      by : (o : Option ℤ) → s.theory ≡ o → above_theory P o ≡ Some p → FindsPrice P u s f TheoryUp p
      by None e k = absurd (none-some p k)
      by (Some a) e k = let above = above_theory_is a p k in (a, e, above.0, above.1)
  finds_is u s f Spread p h = less_is u (last_value f.spread) p h
  finds_is u s f PreviousSpread p h = less_is u s.terms.previous_spread p h
  finds_is u s f Copy p h = h
  finds_is u s f Previous p h = h
  finds_is u s f Ruling p h = by s.ruling refl h
    where
      by : (o : Option rulings.Ruling) → s.ruling ≡ o → ruled o ≡ Some p → FindsPrice P u s f Ruling p
      by None e k = absurd (none-some p k)
      by (Some a) e k = (a, e, sym (same_Some a.value p k))

-- what is found with its time has the price and the time
timed_parts : (price time : Option ℤ) (v : TimedPrice) → timed price time ≡ Some v → (price ≡ Some v.price) × (time ≡ v.time)
timed_parts None time v h = absurd (none-some v h)
timed_parts (Some p) time v h =
    let same = same_Some (record { price = p; time = time }) v h in
    (ap (λ (w : TimedPrice). Some w.price) same, ap (λ (w : TimedPrice). w.time) same)

no_price : (price time : Option ℤ) → timed price time ≡ None → price ≡ None
no_price None time h = refl
no_price (Some p) time h = absurd (none-some (record { price = p; time = time }) (sym h))

-- what is computed of the time is the time
stamp_is : {V : Type 0} (o : Option (Last V)) → IsStampOf o (last_stamp o)
stamp_is None = refl
stamp_is (Some l) = refl

time_is : (v : Option ℤ) (f : Figures) (step : Step) → HasTime v f step (time_found v f step)
time_is v f Auction = stamp_is f.auction
time_is v f Trade = stamp_is f.trade
time_is v f Quote = stamp_is f.quote
time_is v f Average = stamp_is f.trade
time_is v f Theory = refl
time_is v f TheoryUp = refl
time_is v f Spread = stamp_is f.spread
time_is v f PreviousSpread = refl
time_is v f Copy = refl
time_is v f Previous = refl
time_is v f Ruling = refl

module _ (P : ℕ → ℤ → Bool) (near : (n : ℕ) (z : ℤ) → Near (P n) z) (u time : Option ℤ) (x : Station) (q : Place) where
  pub found_is : (v : TimedPrice) → found P u time x q ≡ Some v → PlaceFinds P u x q v.price × PlaceHasTime time x q v.time
  found_is v h =
      let both = timed_parts (place_price P u x q) (place_time time x q) v h in
      let f = x.figures (window_number q.window) in (
        finds_is (P x.series.terms.ladder) (near x.series.terms.ladder) u x.series f q.step v.price both.0,
        subst (PlaceHasTime time x q) both.1 (time_is time f q.step),
      )

  pub none_found : (p : ℤ) → found P u time x q ≡ None → PlaceFinds P u x q p → ⊥
  none_found p none h =
      none-some p (sym (no_price (place_price P u x q) (place_time time x q) none)
      ∙ finds_value (P x.series.terms.ladder) (near x.series.terms.ladder) u x.series (x.figures (window_number q.window)) q.step p h)
