use Rattle.std.proofs.Common.{Err, ◌∙◌}
use Rattle.lines.proofs.Parsings.{parsed_unknown}
use Rattle.lines.proofs.Writings.{parsed_alone}
use Rattle.lines.proofs.parsing.parse.Goals as goal

pub returns-in_default-clause-parsed : goal.returns-in_default-clause-parsed
returns-in_default-clause-parsed c =
    parsed_unknown _ _ _ c.refusal.result c.if-line-gt-LONGEST.false c.begin.ensures.cut c.in_default.ensures (c.refusal.ensures ∙ c.begin.ensures.start)

pub returns-in_default-clause-alone : goal.returns-in_default-clause-alone
returns-in_default-clause-alone c = parsed_alone c.args.line.now (Err c.refusal.result) (returns-in_default-clause-parsed c)
