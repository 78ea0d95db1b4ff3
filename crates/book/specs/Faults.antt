-- The number that each refusal is known by, and its text.
use Rattle.std.specs.Prelude.{ℕ, List, codes}
use Rattle.book.specs.declared.faults.DayFault.{DayFault}
use Rattle.book.specs.declared.faults.DayFault.TheVariants.{NotLawful}
use Rattle.book.specs.declared.faults.BookFault.{BookFault}
use Rattle.book.specs.declared.faults.BookFault.TheVariants.{BeyondLimits, Full}

abbrev pub day_number : DayFault → ℕ
day_number NotLawful = 1

abbrev pub book_number : BookFault → ℕ
book_number BeyondLimits = 6
book_number Full = 9

-- what is wrong, as a clerk reads it
abbrev pub day_reason : DayFault → List ℕ
day_reason NotLawful = codes "the day record is not lawful"

abbrev pub book_reason : BookFault → List ℕ
book_reason BeyondLimits = codes "a number beyond its limits, a crossed quote, or no such series"
book_reason Full = codes "the book is full"
