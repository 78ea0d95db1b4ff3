-- The number that each refusal of a line is known by, what is told beside it, and its text.
use Rattle.std.specs.Prelude.{ℕ, List, Some, None, codes, Option}
use Rattle.book.specs.Faults.{day_number, day_reason}
use Rattle.ladders.specs.Faults.{ladder_number, ladder_reason}
use Rattle.house.specs.Faults.{house_number, house_reason}
use Rattle.lines.specs.Faults.{not_read_reason}
use Rattle.house.specs.declared.faults.HouseFault.{HouseFault}
use Rattle.house.specs.declared.faults.HouseFault.TheVariants as house_faults
use Rattle.answers.specs.declared.faults.LineFault.{LineFault}
use Rattle.answers.specs.declared.faults.LineFault.TheVariants.{NoDay, SecondDay, Day, Ladders, House, NotRead, ShortBuffer}

abbrev pub line_number : LineFault → ℕ
line_number NoDay = 2
line_number SecondDay = 2
line_number (Day f) = day_number f
line_number (Ladders f) = ladder_number f
line_number (House f) = house_number f
line_number (NotRead e) = 11
line_number ShortBuffer = 12

-- the series from which a refused price comes
abbrev pub house_origin : HouseFault → Option ℕ
house_origin house_faults.WrongPhase = None
house_origin house_faults.SeriesFull = None
house_origin house_faults.NoSuchSeries = None
house_origin house_faults.TermsNotLawful = None
house_origin house_faults.SuppliedBeyondLimits = None
house_origin house_faults.OffLadder = None
house_origin house_faults.SpreadNotFollowing = None
house_origin (house_faults.NoPrice origin) = Some origin
house_origin (house_faults.Book f) = None

-- that origin, or the place in the line
abbrev pub line_detail : LineFault → Option ℕ
line_detail NoDay = None
line_detail SecondDay = None
line_detail (Day f) = None
line_detail (Ladders f) = None
line_detail (House f) = house_origin f
line_detail (NotRead e) = Some e.place
line_detail ShortBuffer = None

-- what is wrong, as a clerk reads it
abbrev pub line_reason : LineFault → List ℕ
line_reason NoDay = codes "no day line was taken yet"
line_reason SecondDay = codes "a further day line"
line_reason (Day f) = day_reason f
line_reason (Ladders f) = ladder_reason f
line_reason (House f) = house_reason f
line_reason (NotRead e) = not_read_reason e
line_reason ShortBuffer = codes "the buffer for the answer has fewer than 96 bytes"
