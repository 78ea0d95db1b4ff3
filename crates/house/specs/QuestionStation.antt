-- The station of a question.
use Rattle.book.specs.Ledgers.{Ledger}
use Rattle.house.specs.Answers.{station_of}
use Rattle.house.specs.Found.{Station}
use Rattle.house.specs.declared.settling.Question.{Question}

-- the series that is asked, with a book of this meaning
abbrev pub station_in : {L B : Type 0} → (B → Ledger) → Question L B → Station
station_in meaning q = station_of q.number q.series (meaning q.book.now)
