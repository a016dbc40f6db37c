use Rattle.std.proofs.Common.{arith}
use Rattle.std.proofs.lemmas.Grind.{common_steps}
use Rattle.sc_text.proofs.Meanings.{too_large}
use Rattle.sc_text.proofs.scan.value_of.Goals as goal

pub returns-then-value-gt-NUMBER_LIMIT : goal.returns-then-value-gt-NUMBER_LIMIT
returns-then-value-gt-NUMBER_LIMIT c =
    too_large c.loop-digit.value c.loop-digit.digit-index c.saturating_sub.result c.args.digits.now c.loop-digit-test.true c.saturating_sub.ensures
    c.loop-digit.invariant.rest c.if-value-gt-NUMBER_LIMIT.true

pub loop-digit-preserved : goal.loop-digit-preserved
loop-digit-preserved c = grind (arith, common_steps) steps 2000000
