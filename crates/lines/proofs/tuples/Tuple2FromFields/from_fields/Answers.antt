use Rattle.std.proofs.Common.{◌∙◌, arith}
use Rattle.std.proofs.lemmas.Result.{err_from_is_err_and}
use Rattle.lines.proofs.Missing.{missed_first, missed_more, missed_none}
use Rattle.lines.proofs.tuples.Tuple2FromFields.from_fields.Goals as goal

pub returns-in_err-field : goal.returns-in_err-field
returns-in_err-field g c =
    let p = err_from_is_err_and c.from_residual.result c.from_residual.ensures.1 in
    let none = c.in_err-field.ensures.next in
    rw (p.1, p.2)
    (missed_none g.T.FromField.spelt g.T.FromField.lawful g.R.FromFields.spelt g.R.FromFields.lawful
    _ g.met.T.FromField.sampled _ g.met.R.FromFields.sampled _ none.0 _ _ none.2)

pub returns-in_default : goal.returns-in_default
returns-in_default g c =
    let next = c.in_ok-field.ensures.next in
    missed_first g.T.FromField.spelt g.T.FromField.lawful g.R.FromFields.spelt g.R.FromFields.lawful
    _ g.met.T.FromField.sampled _ g.met.R.FromFields.sampled _ _ _ next.0 _ _ (c.refusal.ensures ∙ next.1) c.in_default.ensures

pub returns-in_err-rest : goal.returns-in_err-rest
returns-in_err-rest g c =
    let p = err_from_is_err_and c.from_residual-in_err-rest.result c.from_residual-in_err-rest.ensures.1 in
    let next = c.in_ok-field.ensures.next in
    let first = c.in-Some.ensures in
    rw (p.1, p.2)
    (missed_more g.T.FromField.spelt g.T.FromField.lawful g.R.FromFields.spelt g.R.FromFields.lawful
    _ first.0 _ first.1 _ _ next.0 _ _ _ (omega (arith, next.1, next.2)) c.in_err-rest.ensures)
