use Rattle.std.proofs.Common.{rules}
use Rattle.answers.proofs.Adding.{added_field}
use Rattle.answers.proofs.writing.put_field.Goals as goal

pub returns : goal.returns
returns c = search (rules, added_field)
