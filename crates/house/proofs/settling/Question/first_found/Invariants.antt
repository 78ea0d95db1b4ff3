use Rattle.std.proofs.Common.{◌≡◌, ◌+◌, drop}
use Rattle.house.specs.Answers.{first_found, price_of, row_of, time_of}
use Rattle.house.specs.QuestionStation.{station_in}
use Rattle.house.specs.Found.{found}
use Rattle.house.proofs.settling.Question.first_found.Given as goal

-- the whole row finds what the places from here on find
abbrev pub invariant-loop-position : goal.invariant-loop-position
invariant-loop-position g l =
    let a = l.self in
    let find = found (g.L.LadderSet.lawful a.set.now) (price_of a.reference) (time_of a.reference) (station_in g.B.Book.meaning a) in
    let row = row_of a.series a.edition in
    first_found find 1 row ≡ first_found find (l.position + 1) (drop l.position row)
