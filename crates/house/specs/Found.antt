-- What each step finds, from what is known of a series.
use Rattle.std.specs.Prelude.{ℕ, Bool, cond, ℤ, ◌+ℤ◌, ◌-ℤ◌, Some, None, Option, unsigned_abs}
use Rattle.book.specs.declared.figures.Figures.{Figures}
use Rattle.book.specs.declared.figures.Last.{Last}
use Rattle.book.specs.declared.figures.Sides.{Sides}
use Rattle.ladders.specs.Prices.{within}
use Rattle.ladders.specs.Values.{above_of, nearest_price}
use Rattle.rows.specs.Codes.{window_number}
use Rattle.rows.specs.declared.places.Place.{Place}
use Rattle.rows.specs.declared.steps.Step.{Step}
use Rattle.rows.specs.declared.steps.Step.TheVariants.{Auction, Trade, Quote, Average, Theory, TheoryUp, Spread, PreviousSpread, Copy, Previous, Ruling}
use Rattle.house.specs.declared.answers.TimedPrice.{TimedPrice}
use Rattle.house.specs.declared.series.Ruling as rulings
use Rattle.house.specs.declared.series.Series.{Series}

-- a series with what its answer rests on beside the lawful prices, the edition and the answer of its reference: its number, its
-- terms and supplied values, and its figures by window
pub record Station : Type 0 where
  pub number : ℕ
  pub series : Series
  pub figures : ℕ → Figures

-- the value and the stamp of a last figure, if there is one
abbrev pub last_value : {V : Type 0} → Option (Last V) → Option V
last_value None = None
last_value (Some l) = Some l.value

abbrev pub last_stamp : {V : Type 0} → Option (Last V) → Option ℤ
last_stamp None = None
last_stamp (Some l) = Some l.stamp

-- nearest of the middle of bid and ask, where both stand
abbrev pub middle : (ℤ → Bool) → Option ℤ → Option ℤ → Option ℤ
middle lawful None ask = None
middle lawful (Some b) None = None
middle lawful (Some b) (Some a) = nearest_price lawful (b +ℤ a) 2

abbrev pub quoted : (ℤ → Bool) → Option Sides → Option ℤ
quoted lawful None = None
quoted lawful (Some q) = middle lawful q.bid q.ask

-- nearest of money over lots; of no lots there is none
abbrev pub average : (ℤ → Bool) → ℤ → ℤ → Option ℤ
average lawful money lots = nearest_price lawful money (unsigned_abs lots)

abbrev pub nearest_theory : (ℤ → Bool) → Option ℤ → Option ℤ
nearest_theory lawful None = None
nearest_theory lawful (Some v) = nearest_price lawful v 1

abbrev pub above_theory : (ℤ → Bool) → Option ℤ → Option ℤ
above_theory lawful None = None
above_theory lawful (Some v) = cond (within v) (Some (above_of lawful v)) None

-- the reference's price less a spread, where both are known
abbrev pub less : Option ℤ → Option ℤ → Option ℤ
less None spread = None
less (Some p) None = None
less (Some p) (Some v) = Some (p -ℤ v)

abbrev pub ruled : Option rulings.Ruling → Option ℤ
ruled None = None
ruled (Some r) = Some r.value

-- the price that a step finds on the lawful prices of the series' ladder, with the reference's price and the figures of its window
abbrev pub price_found : (ℤ → Bool) → Option ℤ → Series → Figures → Step → Option ℤ
price_found lawful reference_price s f Auction = last_value f.auction
price_found lawful reference_price s f Trade = last_value f.trade
price_found lawful reference_price s f Quote = quoted lawful (last_value f.quote)
price_found lawful reference_price s f Average = average lawful f.money f.lots
price_found lawful reference_price s f Theory = nearest_theory lawful s.theory
price_found lawful reference_price s f TheoryUp = above_theory lawful s.theory
price_found lawful reference_price s f Spread = less reference_price (last_value f.spread)
price_found lawful reference_price s f PreviousSpread = less reference_price s.terms.previous_spread
price_found lawful reference_price s f Copy = reference_price
price_found lawful reference_price s f Previous = s.terms.previous_settlement
price_found lawful reference_price s f Ruling = ruled s.ruling

-- the time of the evidence that a step looks for, with the time of the reference's answer and the figures of its window: V has the
-- last trade's, and T, U, P, B and D have none
abbrev pub time_found : Option ℤ → Figures → Step → Option ℤ
time_found reference_time f Auction = last_stamp f.auction
time_found reference_time f Trade = last_stamp f.trade
time_found reference_time f Quote = last_stamp f.quote
time_found reference_time f Average = last_stamp f.trade
time_found reference_time f Theory = None
time_found reference_time f TheoryUp = None
time_found reference_time f Spread = last_stamp f.spread
time_found reference_time f PreviousSpread = None
time_found reference_time f Copy = reference_time
time_found reference_time f Previous = None
time_found reference_time f Ruling = None

-- a price, if one is found, with its time
abbrev pub timed : Option ℤ → Option ℤ → Option TimedPrice
timed None time = None
timed (Some p) time = Some (record { price = p; time = time })

-- the price that a place of a row finds for a series, and its time, with those of the reference's answer
abbrev pub place_price : (ℕ → ℤ → Bool) → Option ℤ → Station → Place → Option ℤ
place_price lawful reference_price x p =
    price_found (lawful x.series.terms.ladder) reference_price x.series (x.figures (window_number p.window)) p.step

abbrev pub place_time : Option ℤ → Station → Place → Option ℤ
place_time reference_time x p = time_found reference_time (x.figures (window_number p.window)) p.step

-- what a place of a row finds for a series
abbrev pub found : (ℕ → ℤ → Bool) → Option ℤ → Option ℤ → Station → Place → Option TimedPrice
found lawful reference_price reference_time x p = timed (place_price lawful reference_price x p) (place_time reference_time x p)
