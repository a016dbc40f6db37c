use Rattle.std.proofs.Common.{arith}
use Rattle.std.proofs.lemmas.Grind.{common_steps}
use Rattle.node_elements.proofs.expansion.states.put_closing.Goals as goal

pub returns-else-weak_around : goal.returns-else-weak_around
returns-else-weak_around c = grind (arith, common_steps) steps 2000000

pub loop-transition-preserved : goal.loop-transition-preserved
loop-transition-preserved c = grind (arith, common_steps) steps 2000000

pub returns-in_ok-put_transition : goal.returns-in_ok-put_transition
returns-in_ok-put_transition c = grind (arith, common_steps) steps 2000000
