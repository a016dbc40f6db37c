use Rattle.std.proofs.Common.{arith}
use Rattle.std.proofs.lemmas.Grind.{common_steps}
use Rattle.node_elements.proofs.lowering.states.put_depth.Goals as goal

pub returns-else-branch : goal.returns-else-branch
returns-else-branch c = grind (arith, common_steps) steps 2000000
