use Rattle.std.proofs.Common.{arith}
use Rattle.std.proofs.lemmas.Grind.{elements}
use Rattle.tick_core.proofs.judging.forbidden.takes_between.Goals as goal

pub returns-then-steps-at : goal.returns-then-steps-at
returns-then-steps-at c = grind (arith, elements) steps 2000000

pub loop-at-preserved : goal.loop-at-preserved
loop-at-preserved c = grind (arith, elements) steps 2000000

pub returns : goal.returns
returns c = grind (arith, elements) steps 2000000
