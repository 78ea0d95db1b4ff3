use Rattle.std.proofs.Common.{rules, ◌≡◌, length, ◌∙◌, arith}
use borrow.Author.Tests.{tests}
use Rattle.std.proofs.lemmas.Iterator.{YieldsList-from_slice}
use Rattle.std.proofs.lemmas.Iterator.Search.{any_from_yields_List}
use Rattle.rows.proofs.Table.{row_short}
use Rattle.rows.specs.Chosen.{chosen}
use Rattle.house.specs.Answers.{row_of}
use Rattle.house.proofs.RowWalk.{any_refers, refers_if}
use Rattle.house.proofs.settling.Question.some_refers.Goals as goal

pub returns : goal.returns
returns g c =
    let s = c.args.self.now.series in
    let ed = c.args.self.now.edition in
    let short = row_short s.terms.family (chosen s.terms.family s.terms.marks ed) in
    let long : length c.places-places.result ≡ 6 = search rules in
    any_from_yields_List refers_if _ _ c.any.result c.any.ensures.ran (YieldsList-from_slice c.places-places.result cc) (λ x b q k. search (rules, tests))
    ∙ any_refers c.places-places.result (row_of s ed) c.places-places.ensures (omega arith)
