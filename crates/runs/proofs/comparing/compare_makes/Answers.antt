use Rattle.std.proofs.Common.{◌≡◌, ◌≤◌, min, length, refl, sym, subst, ap, ◌∙◌, rules, w64, arith}
use Rattle.std.proofs.lemmas.Int.{to_z-of_z}
use Rattle.runs.specs.Laws.{calls_taken_in, end_memory, new_run}
use Rattle.runs.specs.ByCalls.{entries}
use Rattle.runs.specs.Stored.{filled}
use Rattle.runs.proofs.Compared.{begun, end_told, laws_begun}
use Rattle.runs.proofs.StoredEntries.{in_places, stored_in_places}
use Rattle.runs.specs.Times.{AnswerTimed}
use Rattle.runs.proofs.Times.{answer_timed}
use Rattle.runs.proofs.comparing.compare_makes.Goals as goal

pub returns-clause-laws : goal.returns-clause-laws
returns-clause-laws g c =
    let x = c.args in
    let d = x.day in
    let j = min x.capacity 30000 in
    let k = min (length x.slots.now) 30000 in
    let size = g.K.LadderSet.size in
    let lawful = g.K.LadderSet.lawful in
    let other_size = g.L.LadderSet.size in
    let other_lawful = g.L.LadderSet.lawful in
    let house = c.new-house in
    let other_house = c.new-other_house in
    let first = new_run size lawful x.set d j x.calls.now in
    let second = new_run other_size other_lawful x.other_set d k x.other_calls.now in
    let begins =
    begun size lawful house.result _ x.set d j x.calls.now house.ensures.state house.ensures.set c.new-board.ensures
    in
    let other_begins =
    begun other_size other_lawful other_house.result _ x.other_set d k x.other_calls.now other_house.ensures.state
    other_house.ensures.set c.new-tape.ensures.meaning
    in
    laws_begun _ _ first second _ x.series x.edition c.compare.result.0 c.compare.result.1 d j k begins other_begins
    (to_z-of_z w64 x.series c.ranges.series) refl refl c.compare.ensures.laws

pub returns-clause-told : goal.returns-clause-told
returns-clause-told g c =
    let x = c.args in
    let j = min x.capacity 30000 in
    let k = min (length x.slots.now) 30000 in
    let first = new_run g.K.LadderSet.size g.K.LadderSet.lawful x.set x.day j x.calls.now in
    let second = new_run g.L.LadderSet.size g.L.LadderSet.lawful x.other_set x.day k x.other_calls.now in
    (end_told x.day j first refl, end_told x.day k second refl)

pub returns-clause-times : goal.returns-clause-times
returns-clause-times g c =
    let x = c.args in
    let d = x.day in
    let j = min x.capacity 30000 in
    let k = min (length x.slots.now) 30000 in
    let first = new_run g.K.LadderSet.size g.K.LadderSet.lawful x.set d j x.calls.now in
    let second = new_run g.L.LadderSet.size g.L.LadderSet.lawful x.other_set d k x.other_calls.now in
    let answers = returns-clause-laws g c in (
      subst (AnswerTimed d first x.series x.edition) (sym answers.one) (answer_timed d j first x.series x.edition (g.met.K.LadderSet.dense x.set) refl),
      subst (AnswerTimed d second x.series x.edition) (sym answers.other) (answer_timed d k second x.series x.edition (g.met.L.LadderSet.dense x.other_set) refl),
    )

pub returns-clause-slots : goal.returns-clause-slots
returns-clause-slots g c =
    let x = c.args in
    let k = min (length x.slots.now) 30000 in
    let size = g.L.LadderSet.size in
    let lawful = g.L.LadderSet.lawful in
    let house = c.new-other_house in
    let second = new_run size lawful x.other_set x.day k x.other_calls.now in
    let begins = begun size lawful house.result _ x.other_set x.day k x.other_calls.now house.ensures.state house.ensures.set c.new-tape.ensures.meaning in
    let taken = entries (calls_taken_in second) in
    let room = (end_told x.day k second refl).book.room in
    let lent : c.new-tape.result.slots.now ≡ x.slots.now = ap (λ s. s.now) c.new-tape.ensures.memory in
    let few : length taken ≤ length c.new-tape.result.slots.now = let long = ap length lent in omega arith in
    let stored = c.compare.ensures.second_memory ∙ ap (λ r. end_memory in_places r c.new-tape.result.slots) begins ∙ stored_in_places taken c.new-tape.result.slots few in
    let now : c.compare.new.second.1.0.slots.now ≡ filled taken x.slots.now = ap (λ s. s.now) stored ∙ ap (filled taken) lent in
    search rules
