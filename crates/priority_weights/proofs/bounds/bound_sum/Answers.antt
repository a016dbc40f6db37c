use Rattle.std.proofs.Common.{arith}
use Rattle.std.proofs.lemmas.Grind.{common_steps, elements}
use Rattle.priority_weights.proofs.bounds.bound_sum.Goals as goal

pub returns-clause-small : goal.returns-clause-small
returns-clause-small c = grind (arith, elements) steps 2000000

pub loop-child-preserved : goal.loop-child-preserved
loop-child-preserved c = grind (arith, common_steps) steps 2000000

pub returns-clause-value : goal.returns-clause-value
returns-clause-value c = grind (arith, common_steps) steps 2000000
