use Rattle.lines.proofs.Numbers.{minus_none, minus_zero, not_empty, other_first}
use Rattle.lines.proofs.values.number_or_missing.Goals as goal

pub returns-in_err-first : goal.returns-in_err-first
returns-in_err-first c = rw c.from_residual.ensures (not_empty _ c.in_err-first.ensures.cases)

pub returns-in_err-n-in-Minus-default : goal.returns-in_err-n-in-Minus-default
returns-in_err-n-in-Minus-default c =
    rw c.from_residual-in_err-n-in-Minus-default.ensures
    (minus_none _ _ _ c.in_ok-first.ensures.cases.0 c.in-Minus-default.ensures c.in-Minus-default.len_at_least
    (λ n p h. c.in_err-n-in-Minus-default.ensures n h))

pub returns-in-0 : goal.returns-in-0
returns-in-0 c =
    minus_zero _ _ _ _ c.in_ok-first.ensures.cases.0 c.in-Minus-default.ensures c.in-Minus-default.len_at_least
    c.in_ok-n-in-Minus-default.ensures.1 c.in-0.is

pub returns-in_default : goal.returns-in_default
returns-in_default c =
    other_first _ _ _ _ c.in_ok-first.ensures.cases.0 c.class_of.ensures c.in_default.not-Digit-0 c.in_default.not-Minus-0
