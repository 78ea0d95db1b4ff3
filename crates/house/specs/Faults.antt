-- The number that each refusal of the house is known by, and its text.
use Rattle.std.specs.Prelude.{ℕ, List, ◌++◌, codes, decimal}
use Rattle.book.specs.Faults.{book_number, book_reason}
use Rattle.house.specs.declared.faults.HouseFault.{HouseFault}
use Rattle.house.specs.declared.faults.HouseFault.TheVariants.{WrongPhase, SeriesFull, NoSuchSeries, TermsNotLawful, SuppliedBeyondLimits, OffLadder, SpreadNotFollowing, NoPrice, Book}

abbrev pub house_number : HouseFault → ℕ
house_number WrongPhase = 2
house_number SeriesFull = 3
house_number NoSuchSeries = 4
house_number TermsNotLawful = 5
house_number SuppliedBeyondLimits = 6
house_number OffLadder = 7
house_number SpreadNotFollowing = 8
house_number (Book f) = book_number f
house_number (NoPrice origin) = 10

-- what is wrong, as a clerk reads it; of a price that no step finds the origin of the refusal is told
abbrev pub house_reason : HouseFault → List ℕ
house_reason WrongPhase = codes "the phase does not allow it"
house_reason SeriesFull = codes "32 series are listed"
house_reason NoSuchSeries = codes "no such series"
house_reason TermsNotLawful = codes "the terms are not lawful"
house_reason SuppliedBeyondLimits = codes "a supplied value is not lawful"
house_reason OffLadder = codes "a price is not on its ladder"
house_reason SpreadNotFollowing = codes "a spread for a series outside family 2"
house_reason (NoPrice origin) = codes "no step finds a price for series " ++ decimal origin
house_reason (Book f) = book_reason f
