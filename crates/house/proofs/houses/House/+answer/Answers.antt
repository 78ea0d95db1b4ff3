use Rattle.std.proofs.Common.{◌≡◌, ℕ, None, Some, Option, sym, ap, ◌∙◌}
use Rattle.house.specs.Answers.{answered, answer_at, station_of}
use Rattle.house.specs.Houses.{state}
use Rattle.house.specs.declared.series.Series.{Series}
use Rattle.house.proofs.Paths.{of_reference, settled_with}
use Rattle.house.proofs.houses.House.+answer.Goals as goal
use Rattle.house.proofs.houses.House.+answer.Goals.{in-Some, in-None}

-- Answered with the answer for the reference, if there is one.
pub returns-clause-value : goal.returns-clause-value
returns-clause-value g t c =
    let h = c.args.self.now in
    let s = state h in
    let m = g.B.Book.meaning c.args.book.now in
    let P = g.L.LadderSet.lawful h.set in
    let ed = c.args.edition in
    let n = c.args.number in
    let here = c.get-series.ensures.value in
    let same = ap (λ (x : Series). answered P ed (station_of n x m) c.match-series.reference) here in
    let by = λ (o : Option ℕ) (by_reference : c.match-series.reference ≡ of_reference (answer_at P ed s m) o) (there : c.get-series.result.terms.reference ≡ o).
    (ap (answered P ed (station_of n (s.roll.series n) m)) by_reference
    ∙ sym (settled_with P ed s m h.listed.lawful n o (ap (λ (x : Series). x.terms.reference) (sym here) ∙ there)))
    in
    c.answer-2.ensures.value ∙ same ∙ elim c.match-series.branch [
      | in-Some w ↦ by (Some w.in-Some.earlier) (w.reference-is ∙ ap Some w.answer.ensures.value) w.in-Some.is
      | in-None w ↦ by None w.reference-is w.in-None.is
    ]
