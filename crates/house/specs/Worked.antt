-- The worked prices: roundings, what a step finds, and what is answered, as one list; and what each of them says.
use Rattle.std.specs.Prelude.{◌≡◌, ℕ, zero, suc, List, [], ◌∷◌, length, ℤ, pos, neg_ℤ, ◌+ℤ◌, Some, None, Ok, Err, Option, Result}
use Rattle.book.specs.Ledgers.{fresh}
use Rattle.book.specs.declared.days.Day.{Day}
use Rattle.book.specs.declared.figures.Figures.{Figures}
use Rattle.book.specs.declared.figures.Last.{Last}
use Rattle.book.specs.declared.figures.Sides.{Sides}
use Rattle.ladders.specs.Fractions.{ceiling}
use Rattle.ladders.specs.Multiples.{multiple}
use Rattle.ladders.specs.Rounding.{Above, Nearest}
use Rattle.rows.specs.declared.families.Family.{Family}
use Rattle.rows.specs.declared.families.Family.TheVariants.{LongBond, FollowingBond, CopiedIndex}
use Rattle.rows.specs.declared.places.Edition.TheVariants.{Close}
use Rattle.rows.specs.declared.steps.Step.{Step}
use Rattle.rows.specs.declared.steps.Step.TheVariants as steps
use Rattle.house.specs.Calls.{State}
use Rattle.house.specs.Faults.{house_number}
use Rattle.house.specs.FindsPrice.{FindsPrice}
use Rattle.house.specs.Questions.{settle_answer}
use Rattle.house.specs.Rolls.{Roll, none_listed, with_listed}
use Rattle.house.specs.Series.{bare_terms, blank}
use Rattle.house.specs.declared.answers.Settlement.{Settlement}
use Rattle.house.specs.declared.faults.HouseFault.{HouseFault}
use Rattle.house.specs.declared.faults.HouseFault.TheVariants.{NoPrice}
use Rattle.house.specs.declared.phases.Phase.TheVariants.{Closed}
use Rattle.house.specs.declared.series.Series.{Series}
use Rattle.house.specs.declared.worked.Matter.{Matter}
use Rattle.house.specs.declared.worked.Matter.TheVariants as matters
use Rattle.house.specs.declared.worked.Refusal.{Refusal}
use Rattle.house.specs.declared.worked.Way.{Way}
use Rattle.house.specs.declared.worked.Way.TheVariants as ways
use Rattle.house.specs.declared.worked.WorkedPrice.{WorkedPrice}
use Rattle.house.specs.declared.worked.WorkedPrice.TheVariants as cases

-- ---- what they say

-- p is the fraction n / d rounded to the multiples of a tick
abbrev pub RoundsTo : Way → ℕ → ℤ → ℕ → ℤ → Type 0
RoundsTo ways.Nearest tick n d p = Nearest (multiple tick) n d p
RoundsTo ways.Above tick n d p = Above (multiple tick) (ceiling n d) p

-- a series of which nothing is known but the theory value, and figures with nothing but a spread or a quote
abbrev pub with_theory_only : ℤ → Series
with_theory_only v = record { terms = blank.terms; theory = Some v; ruling = None }

abbrev pub with_figures_only : Option (Last ℤ) → Option (Last Sides) → Figures
with_figures_only spread quote = record {
  trade = None;
  auction = None;
  spread = spread;
  quote = quote;
  lots = pos 0;
  money = pos 0;
}

-- that a step finds a price on the multiples of a tick where nothing is known but its matter, whatever the stamp of that
abbrev pub FindsBy : ℕ → Step → Matter → ℤ → Type 0
FindsBy tick step (matters.Theory v) p = FindsPrice (multiple tick) None (with_theory_only v) (with_figures_only None None) step p
FindsBy tick step (matters.Quote bid ask) p =
    (t : ℤ)
    → FindsPrice (multiple tick) None blank
    (with_figures_only None (Some (record { stamp = t; value = record { bid = Some bid; ask = Some ask } }))) step p
FindsBy tick step (matters.Spread reference spread) p =
    (t : ℤ)
    → FindsPrice (multiple tick) (Some reference) blank (with_figures_only (Some (record { stamp = t; value = spread })) None) step p

-- the series listed before; number 0 is the first
abbrev pub number_before : ℕ → Option ℕ
number_before zero = None
number_before (suc n) = Some n

-- the listed series of these families, each of which refers to the next: the last is listed first
abbrev pub listed_bare : List Family → Roll
listed_bare [] = none_listed
listed_bare (f ∷ fs) = with_listed (bare_terms f (number_before (length fs))) (listed_bare fs)

-- a closed house in which nothing was supplied
abbrev pub closed_with : List Family → State
closed_with fs = record { phase = Closed; roll = listed_bare fs }

-- the answer is that settlement, or the refusal of that number and origin
abbrev pub AnswerIs : Result Settlement HouseFault → Result Settlement Refusal → Type 0
AnswerIs answer (Ok s) = answer ≡ Ok s
AnswerIs answer (Err r) = (answer ≡ Err (NoPrice r.origin)) × (house_number (NoPrice r.origin) ≡ r.number)

abbrev pub Holds : WorkedPrice → Type 0
Holds (cases.Rounding tick way fraction price) = RoundsTo way tick fraction.0 fraction.1 price
Holds (cases.Finding tick step matter price) = FindsBy tick step matter price
Holds (cases.Answer tick edition family references answer) =
    (d : Day) (capacity : ℕ)
    → AnswerIs (settle_answer (λ l. multiple tick) edition (pos (length references)) (closed_with (family ∷ references)) (fresh d capacity)) answer

-- ---- the list

abbrev pub worked_prices : List WorkedPrice
worked_prices =
    cases.Rounding 10000 ways.Nearest (pos 38514999, 1) (pos 38510000)
    ∷ cases.Rounding 10 ways.Nearest (neg_ℤ (pos 15), 1) (neg_ℤ (pos 10))
    ∷ cases.Rounding 10 ways.Nearest (neg_ℤ (pos 16), 1) (neg_ℤ (pos 20))
    ∷ cases.Rounding 10 ways.Above (pos 101, 1) (pos 110)
    ∷ cases.Rounding 10 ways.Above (neg_ℤ (pos 101), 1) (neg_ℤ (pos 100))
    ∷ cases.Rounding 10 ways.Nearest (pos 100 +ℤ pos 130, 2) (pos 120)
    ∷ cases.Finding 10000 steps.Theory (matters.Theory (pos 38514999)) (pos 38510000)
    ∷ cases.Finding 10 steps.Theory (matters.Theory (neg_ℤ (pos 15))) (neg_ℤ (pos 10))
    ∷ cases.Finding 10 steps.Theory (matters.Theory (neg_ℤ (pos 16))) (neg_ℤ (pos 20))
    ∷ cases.Finding 10 steps.TheoryUp (matters.Theory (pos 101)) (pos 110)
    ∷ cases.Finding 10 steps.TheoryUp (matters.Theory (neg_ℤ (pos 101))) (neg_ℤ (pos 100))
    ∷ cases.Finding 10 steps.Quote (matters.Quote (pos 100) (pos 130)) (pos 120)
    ∷ cases.Finding 10 steps.Spread (matters.Spread (pos 145200) (neg_ℤ (pos 30))) (pos 145230)
    ∷ cases.Answer 10 Close CopiedIndex (FollowingBond ∷ LongBond ∷ []) (Err (record { number = 10; origin = 0 }))
    ∷ []
