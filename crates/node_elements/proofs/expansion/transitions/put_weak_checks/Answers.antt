use Rattle.std.proofs.Common.{arith}
use Rattle.std.proofs.lemmas.Grind.{common_steps}
use Rattle.node_elements.proofs.expansion.transitions.put_weak_checks.Goals as goal

pub loop-superstate-preserved : goal.loop-superstate-preserved
loop-superstate-preserved c = grind (arith, common_steps) steps 2000000
