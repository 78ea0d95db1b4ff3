use Rattle.std.proofs.Common.{rules}
use Rattle.lines.proofs.Numbers.{digit_step}
use Rattle.lines.proofs.numerals.value_of.Goals as goal

pub loop-byte-preserved : goal.loop-byte-preserved
loop-byte-preserved c =
    digit_step c.args.digits.now c.loop-byte.byte-index c.loop-byte.n c.from.result c.loop-byte-test.true
    c.loop-byte.invariant.0 c.loop-byte.invariant.1 (search rules) (search rules)
