use Rattle.std.proofs.Common.{rules}
use Rattle.answers.proofs.Adding.{begins_listed}
use Rattle.answers.proofs.writing.put_listed.Goals as goal

pub returns : goal.returns
returns c = search (rules, begins_listed)
