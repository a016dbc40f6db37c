use Rattle.std.proofs.Common.{arith}
use Rattle.std.proofs.lemmas.Grind.{common_steps, elements}
use Rattle.tick_core.proofs.started_twice.wake_one_twice.Goals as goal

pub returns-else-at-len-clause-woken : goal.returns-else-at-len-clause-woken
returns-else-at-len-clause-woken c = grind (arith, common_steps) steps 2000000

pub returns-then-at-len-clause-same : goal.returns-then-at-len-clause-same
returns-then-at-len-clause-same c = grind (arith, elements) steps 2000000

pub returns-then-at-len-clause-woken : goal.returns-then-at-len-clause-woken
returns-then-at-len-clause-woken c = grind (arith, elements) steps 2000000

pub returns-else-at-len-clause-same : goal.returns-else-at-len-clause-same
returns-else-at-len-clause-same c = grind (arith, elements) steps 2000000
