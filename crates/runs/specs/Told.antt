-- What stands after a run, told by the calls taken.
use Rattle.std.specs.Prelude.{◌≡◌, ℕ, ◌≤◌, true, List, length}
use Rattle.book.specs.Entries.{allowed}
use Rattle.book.specs.Evidence.{Evidence}
use Rattle.book.specs.Ledgers.{Ledger}
use Rattle.book.specs.Records.{every, recorded}
use Rattle.book.specs.declared.days.Day.{Day}
use Rattle.house.specs.Rolls.{Roll}
use Rattle.house.specs.Series.{blank, lawful_series}
use Rattle.runs.specs.ByCalls.{entries, terms_listed, phase_after, series_after}
use Rattle.calls.specs.Worlds.{World}
use Rattle.calls.specs.declared.call.Call.{Call}

-- the listed series: as many as there are listings, each with the terms of its listing and what was last supplied
pub record RollTold (xs : List Call) (r : Roll) : Type 0 where
  pub series : (n : ℕ) → r.series n ≡ series_after xs n
  pub count : r.count ≡ length (terms_listed xs)
  pub lawful : (n : ℕ) → lawful_series n (r.series n) ≡ true
  pub unused : (n : ℕ) → r.count ≤ n → r.series n ≡ blank

-- the book of a day with so many places: the entries taken, all of them allowed; its figures are evidence of them
pub record BookTold (d : Day) (k : ℕ) (xs : List Call) (m : Ledger) : Type 0 where
  pub records : m ≡ recorded d k (entries xs)
  pub lawful : every (allowed d) (entries xs) ≡ true
  pub room : length (entries xs) ≤ k
  pub evidence : Evidence m (entries xs)

pub record Told (d : Day) (k : ℕ) (xs : List Call) (w : World) : Type 0 where
  pub phase : w.state.phase ≡ phase_after xs
  pub roll : RollTold xs w.state.roll
  pub book : BookTold d k xs w.book
