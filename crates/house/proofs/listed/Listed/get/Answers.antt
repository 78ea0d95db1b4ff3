use Rattle.std.proofs.Common.{rules, ◌≡◌, true, slice_index_or, sym, subst}
use Rattle.house.specs.Series.{blank, lawful_series}
use Rattle.house.specs.declared.series.Series.{Series}
use Rattle.house.proofs.listed.Listed.get.Goals as goal

pub returns-clause-lawful : goal.returns-clause-lawful
returns-clause-lawful c =
    let l = c.args.self.now in
    let there : c.unwrap_or_else.result ≡ slice_index_or l.slots c.args.n blank = search rules in
    subst (λ (s : Series). lawful_series c.args.n s ≡ true) (sym there) (l.lawful c.args.n)
