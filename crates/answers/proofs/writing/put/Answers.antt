use Rattle.std.proofs.Common.{rules}
use Rattle.answers.proofs.Adding.{added_part}
use Rattle.answers.proofs.writing.put.Goals as goal

pub returns : goal.returns
returns c = search (rules, added_part)
