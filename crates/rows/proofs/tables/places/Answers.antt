use Rattle.std.proofs.Common.{rules, ◌≡◌, ◌<◌, None, slice_index_or, sym, ap, ◌∙◌, ⊎_elim, arith}
use Rattle.std.proofs.lemmas.Bool.Decides.{leb_tells}
use Rattle.std.proofs.lemmas.List.{get_or_past}
use Rattle.rows.specs.Codes.{decoded}
use Rattle.rows.proofs.Table.{codes_tell, handed_out_lawful, past_end}
use Rattle.rows.proofs.tables.places.Goals as goal

-- Each place is the decoded code; past the sixth there is none, and neither has the row one.
pub returns-clause-value : goal.returns-clause-value
returns-clause-value c k =
    let f = c.args.family in
    let ch = c.args.choice in
    let inside = λ (h : k < 6).
    (let called = c.map.ensures.items.at k 0 None h in
    let tells : slice_index_or c.map.result k None ≡ decoded (slice_index_or c.codes.result k 0) = search rules in
    tells ∙ ap decoded (c.codes.ensures k) ∙ codes_tell f ch k)
    in
    ⊎_elim (λ p. get_or_past c.map.result k None (omega (arith, c.map.ensures.items.long, p.1)) ∙ sym (past_end f ch k p.1)) (λ p. inside p.1) (leb_tells 6 k)

pub returns-clause-lawful : goal.returns-clause-lawful
returns-clause-lawful c = handed_out_lawful c.args.family c.args.choice _ (λ k. returns-clause-value c k ∙ sym (codes_tell c.args.family c.args.choice k))
