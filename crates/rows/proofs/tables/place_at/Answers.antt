use Rattle.std.proofs.Common.{rules, ◌≡◌, ◌≤◌, ◌<◌, slice_index, ap, ◌∙◌, sym, arith}
use Rattle.rows.specs.Codes.{decoded}
use Rattle.rows.proofs.Table.{codes_tell, past_end, place_lawful}
use Rattle.rows.proofs.tables.place_at.Goals as goal

pub returns-in_err-code-clause-lawful : goal.returns-in_err-code-clause-lawful
returns-in_err-code-clause-lawful c =
    let k = c.args.position in
    let past : 6 ≤ k = search (rules, arith) in
    place_lawful c.args.family c.args.choice k _ (c.from_residual.ensures ∙ sym (past_end c.args.family c.args.choice k past))

pub returns-clause-value : goal.returns-clause-value
returns-clause-value c =
    let k = c.args.position in
    let inside : k < 6 = search (rules, arith) in
    let tells : c.in_ok-code.field-0.now ≡ slice_index c.codes.result k = search rules in
    c.decode.ensures ∙ ap decoded (tells ∙ c.codes.ensures k) ∙ codes_tell c.args.family c.args.choice k

pub returns-clause-lawful : goal.returns-clause-lawful
returns-clause-lawful c = place_lawful c.args.family c.args.choice c.args.position _ (returns-clause-value c)
