-- The time of an answer, told by the entries taken in a run.
use Rattle.std.specs.Prelude.{◌≡◌, ℕ, ◌+◌, ◌⊎◌, List, [], ◌∷◌, ℤ, pos, ◌-ℤ◌, Some, None, Ok, Option, IfOk, unsigned_abs}
use Rattle.book.specs.Evidence.{StandsLast, auction_price, pick, quote_sides, spread_value, trade_price}
use Rattle.book.specs.Windows.{edges}
use Rattle.book.specs.declared.days.Day.{Day}
use Rattle.book.specs.declared.entries.Entry.{Entry}
use Rattle.book.specs.declared.entries.Kind.{Kind}
use Rattle.book.specs.declared.figures.Sides.{Sides}
use Rattle.rows.specs.Codes.{at, window_number}
use Rattle.rows.specs.declared.places.Edition.{Edition}
use Rattle.rows.specs.declared.places.Place.{Place}
use Rattle.rows.specs.declared.steps.Step.{Step}
use Rattle.rows.specs.declared.steps.Step.TheVariants.{Auction, Trade, Quote, Average, Theory, TheoryUp, Spread, PreviousSpread, Copy, Previous, Ruling}
use Rattle.house.specs.Answers.{references, row_of}
use Rattle.house.specs.declared.answers.Settlement.{Settlement}
use Rattle.runs.specs.ByCalls.{entries, series_after}
use Rattle.runs.specs.Laws.{Outcome, RunMeaning, answer_in, calls_taken_in}

-- the time is the stamp of an entry that was taken for the series numbered n in a window with these edges, of a kind that has such a
-- value; it has the value v, and is the last of them: none taken before it has a later stamp, and none taken after it as late a one
abbrev pub TimeOfEntry : {V : Type 0} → (Kind → Option V) → ℕ → ℤ × ℤ → List Entry → Option ℤ → V → Type 0
TimeOfEntry has n window es time v = (t : ℤ) × (time ≡ Some t) × StandsLast (pick has n window) es (record { stamp = t; value = v })

-- the time of a settlement of the series numbered n by a step that looks in this window. A settlement of the reference is one of
-- which `OfReference` holds. An auction counts as a trade; A and L have the price of that entry too, and S its difference
abbrev pub TimeByStep : (Settlement → Type 0) → ℕ → ℤ × ℤ → List Entry → Step → Settlement → Type 0
TimeByStep OfReference n window es Auction s = TimeOfEntry auction_price n window es s.time s.price
TimeByStep OfReference n window es Trade s = TimeOfEntry trade_price n window es s.time s.price
TimeByStep OfReference n window es Quote s = (q : Sides) × TimeOfEntry quote_sides n window es s.time q
TimeByStep OfReference n window es Average s = (p : ℤ) × TimeOfEntry trade_price n window es s.time p
TimeByStep OfReference n window es Theory s = s.time ≡ None
TimeByStep OfReference n window es TheoryUp s = s.time ≡ None
TimeByStep OfReference n window es Spread s =
    (b : Settlement) × OfReference b × TimeOfEntry spread_value n window es s.time (b.price -ℤ s.price)
TimeByStep OfReference n window es PreviousSpread s = s.time ≡ None
TimeByStep OfReference n window es Copy s = (b : Settlement) × OfReference b × (s.price ≡ b.price) × (s.time ≡ b.time)
TimeByStep OfReference n window es Previous s = s.time ≡ None
TimeByStep OfReference n window es Ruling s = s.time ≡ None

-- of a settlement at a place of the row, in the window of that place
pub record TimeByPlace (OfReference : Settlement → Type 0) (d : Day) (n : ℕ) (es : List Entry) (row : List Place) (s : Settlement) : Type 0 where
  pub position : ℕ
  pub place : Place
  pub stands : at row position ≡ Some place
  pub counted : s.place ≡ position + 1
  pub step : place.step ≡ s.step
  pub time : TimeByStep OfReference n (edges d (window_number place.window)) es place.step s

-- of a settlement by a ruling with the first mark, which has no time, or by a place of the row
abbrev pub TimeOfOne : (Settlement → Type 0) → Day → ℕ → List Entry → List Place → Settlement → Type 0
TimeOfOne OfReference d n es row s =
    ((s.place ≡ 0) × (s.step ≡ Ruling) × (s.time ≡ None)) ⊎ TimeByPlace OfReference d n es row s

-- the time of a settlement of the series numbered n in the end of a run, with the numbers of the references behind it. Where C
-- decided, it is that of the reference's answer, which is told in the same way; so the entry is one for the first series of the path
-- that did not settle by C
abbrev pub TimeTold : Day → RunMeaning → Edition → ℕ → List ℕ → Settlement → Type 0
TimeTold d r ed n [] s =
    let taken = calls_taken_in r in
    TimeOfOne (λ b. ⊥) d n (entries taken) (row_of (series_after taken n) ed) s
TimeTold d r ed n (m ∷ ms) s =
    let taken = calls_taken_in r in
    TimeOfOne (λ b. (answer_in r (pos m) ed ≡ Ok b) × TimeTold d r ed m ms b) d n (entries taken) (row_of (series_after taken n) ed) s

-- of what is answered in the end of a run that began with a new house and an empty book of the day
abbrev pub AnswerTimed : Day → RunMeaning → ℤ → Edition → Outcome → Type 0
AnswerTimed d r n ed x =
    IfOk x (TimeTold d r ed (unsigned_abs n) (references (series_after (calls_taken_in r)) (unsigned_abs n)))
