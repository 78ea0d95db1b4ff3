-- A whole day on a board, from an empty book of 30,000 places that waits for a day.
use Rattle.std.specs.Prelude.{ℕ, List, Option}
use Rattle.book.specs.Days.{least_day}
use Rattle.book.specs.Ledgers.{Ledger, fresh}
use Rattle.stream.specs.Served.{Served, ServedInPart}

-- an input was answered
abbrev pub DayServed : Option (List ℕ) → Option (List ℕ) → Option (List ℕ) → Option (List ℕ) → Type 0
DayServed remaining left before after = (book : Ledger) × Served remaining left before after (fresh least_day 30000) book

-- as much of it as there was before an error
abbrev pub DayServedInPart : Option (List ℕ) → Option (List ℕ) → Option (List ℕ) → Option (List ℕ) → Type 0
DayServedInPart remaining left before after =
    (book : Ledger) × ServedInPart remaining left before after (fresh least_day 30000) book
