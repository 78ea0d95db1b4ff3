-- That a step finds a price, and which time it has, as relations in the words of the rules.
use Rattle.std.specs.Prelude.{◌≡◌, ℕ, Bool, true, ℤ, ◌+ℤ◌, ◌-ℤ◌, Some, None, Option, unsigned_abs}
use Rattle.book.specs.declared.figures.Figures.{Figures}
use Rattle.book.specs.declared.figures.Last.{Last}
use Rattle.book.specs.declared.figures.Sides.{Sides}
use Rattle.ladders.specs.Fractions.{inside}
use Rattle.ladders.specs.Prices.{within}
use Rattle.ladders.specs.Rounding.{Above, Nearest}
use Rattle.rows.specs.Codes.{window_number}
use Rattle.rows.specs.declared.places.Place.{Place}
use Rattle.rows.specs.declared.steps.Step.{Step}
use Rattle.rows.specs.declared.steps.Step.TheVariants.{Auction, Trade, Quote, Average, Theory, TheoryUp, Spread, PreviousSpread, Copy, Previous, Ruling}
use Rattle.house.specs.Found.{Station, last_value}
use Rattle.house.specs.declared.series.Ruling as rulings
use Rattle.house.specs.declared.series.Series.{Series}

-- p is nearest of n / d; d is not 0, and the fraction lies within the price limit
abbrev pub IsNearest : (ℤ → Bool) → ℤ → ℕ → ℤ → Type 0
IsNearest lawful n d p = (inside n d ≡ true) × Nearest lawful n d p

-- the quote has both sides, and p is nearest of their middle
abbrev pub IsNearestMiddle : (ℤ → Bool) → Option Sides → ℤ → Type 0
IsNearestMiddle lawful quote p =
    (bid : ℤ) × (ask : ℤ) × (quote ≡ Some (record { bid = Some bid; ask = Some ask })) × IsNearest lawful (bid +ℤ ask) 2 p

-- the reference has a price, there is a spread, and p is the one less the other
abbrev pub IsLess : Option ℤ → Option ℤ → ℤ → Type 0
IsLess reference spread p = (r : ℤ) × (d : ℤ) × (reference ≡ Some r) × (spread ≡ Some d) × (p ≡ r -ℤ d)

-- the step finds p on the lawful prices of the series' ladder, with the reference's price, where there is one, and the figures of the
-- step's window
abbrev pub FindsPrice : (ℤ → Bool) → Option ℤ → Series → Figures → Step → ℤ → Type 0
FindsPrice lawful reference_price s f Auction p = last_value f.auction ≡ Some p
FindsPrice lawful reference_price s f Trade p = last_value f.trade ≡ Some p
FindsPrice lawful reference_price s f Quote p = IsNearestMiddle lawful (last_value f.quote) p
FindsPrice lawful reference_price s f Average p = IsNearest lawful f.money (unsigned_abs f.lots) p
FindsPrice lawful reference_price s f Theory p = (t : ℤ) × (s.theory ≡ Some t) × IsNearest lawful t 1 p
FindsPrice lawful reference_price s f TheoryUp p = (t : ℤ) × (s.theory ≡ Some t) × (within t ≡ true) × Above lawful t p
FindsPrice lawful reference_price s f Spread p = IsLess reference_price (last_value f.spread) p
FindsPrice lawful reference_price s f PreviousSpread p = IsLess reference_price s.terms.previous_spread p
FindsPrice lawful reference_price s f Copy p = reference_price ≡ Some p
FindsPrice lawful reference_price s f Previous p = s.terms.previous_settlement ≡ Some p
FindsPrice lawful reference_price s f Ruling p = (r : rulings.Ruling) × (s.ruling ≡ Some r) × (p ≡ r.value)

-- the place of a row finds p for a series: its step does, with the figures of its window
abbrev pub PlaceFinds : (ℕ → ℤ → Bool) → Option ℤ → Station → Place → ℤ → Type 0
PlaceFinds lawful reference_price x q p =
    FindsPrice (lawful x.series.terms.ladder) reference_price x.series (x.figures (window_number q.window)) q.step p

-- the time is the stamp of the last figure, if there is one
abbrev pub IsStampOf : {V : Type 0} → Option (Last V) → Option ℤ → Type 0
IsStampOf None time = time ≡ None
IsStampOf (Some l) time = time ≡ Some l.stamp

-- the step has this time, with that of the reference's answer and the figures of the step's window. An average has the last trade's,
-- a copy the reference's, and T, U, P, B and D have none
abbrev pub HasTime : Option ℤ → Figures → Step → Option ℤ → Type 0
HasTime reference_time f Auction time = IsStampOf f.auction time
HasTime reference_time f Trade time = IsStampOf f.trade time
HasTime reference_time f Quote time = IsStampOf f.quote time
HasTime reference_time f Average time = IsStampOf f.trade time
HasTime reference_time f Theory time = time ≡ None
HasTime reference_time f TheoryUp time = time ≡ None
HasTime reference_time f Spread time = IsStampOf f.spread time
HasTime reference_time f PreviousSpread time = time ≡ None
HasTime reference_time f Copy time = time ≡ reference_time
HasTime reference_time f Previous time = time ≡ None
HasTime reference_time f Ruling time = time ≡ None

-- the place of a row has this time for a series: its step does, with the figures of its window
abbrev pub PlaceHasTime : Option ℤ → Station → Place → Option ℤ → Type 0
PlaceHasTime reference_time x q time = HasTime reference_time (x.figures (window_number q.window)) q.step time
