use Rattle.std.proofs.Common.{rules}
use Rattle.answers.proofs.Adding.{begins_refused, begins_detail}
use Rattle.answers.proofs.writing.put_refused.Goals as goal

pub returns-in-Some : goal.returns-in-Some
returns-in-Some c =
    begins_detail _ _ _ _ _ _ _ _ _ c.args.fault c.put-at.ensures c.put_number-at.ensures.added c.number.ensures
    c.put_number.ensures.added c.in-Some.ensures.detail (search rules)

pub returns-in-None : goal.returns-in-None
returns-in-None c = search (rules, begins_refused)
