use Rattle.std.proofs.Common.{◌≡◌, sym, subst, w64}
use Rattle.std.proofs.Math.Path.{subst₂}
use Rattle.std.proofs.lemmas.Int.{to_z-of_z}
use Rattle.house.specs.Houses.{set_of}
use Rattle.runs.specs.Laws.{Comparable, Laws, Outcome, answer_in, run_in}
use Rattle.runs.proofs.Compared.{end_told, laws}
use Rattle.runs.specs.Times.{AnswerTimed}
use Rattle.runs.proofs.Times.{answer_timed}
use Rattle.runs.proofs.comparing.compare.Goals as goal

pub returns-clause-laws : goal.returns-clause-laws
returns-clause-laws g c =
    let x = c.args in
    let a = run_in g.K.LadderSet.size g.K.LadderSet.lawful g.J.Book.meaning x.first in
    let b = run_in g.L.LadderSet.size g.L.LadderSet.lawful g.B.Book.meaning x.second in
    let n = x.series in
    let ed = x.edition in
    let plain = to_z-of_z w64 n c.ranges.series in
    let one = subst (λ z. c.ask_both.result.0 ≡ answer_in a z ed) plain c.ask_both.ensures.one in
    let other = subst (λ z. c.ask_both.result.1 ≡ answer_in b z ed) plain c.ask_both.ensures.other in
    subst₂ (λ (p q : Outcome). Laws Comparable a b n ed p q) (sym one) (sym other)
    (laws a b n ed (g.met.K.LadderSet.dense (set_of x.first.house.now)))

pub returns-clause-told : goal.returns-clause-told
returns-clause-told g c =
    let x = c.args in
    let a = run_in g.K.LadderSet.size g.K.LadderSet.lawful g.J.Book.meaning x.first in
    let b = run_in g.L.LadderSet.size g.L.LadderSet.lawful g.B.Book.meaning x.second in
    λ d k. (end_told d k a, end_told d k b)

pub returns-clause-times : goal.returns-clause-times
returns-clause-times g c =
    let x = c.args in
    let a = run_in g.K.LadderSet.size g.K.LadderSet.lawful g.J.Book.meaning x.first in
    let b = run_in g.L.LadderSet.size g.L.LadderSet.lawful g.B.Book.meaning x.second in
    let n = x.series in
    let ed = x.edition in
    let answers = returns-clause-laws g c in
    λ d k. (
      λ new. subst (AnswerTimed d a n ed) (sym answers.one) (answer_timed d k a n ed (g.met.K.LadderSet.dense (set_of x.first.house.now)) new),
      λ new. subst (AnswerTimed d b n ed) (sym answers.other) (answer_timed d k b n ed (g.met.L.LadderSet.dense (set_of x.second.house.now)) new),
    )
