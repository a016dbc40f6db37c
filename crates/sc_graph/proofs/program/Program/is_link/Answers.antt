use Rattle.std.proofs.lemmas.Grind.{common_steps}
use Rattle.std.proofs.Common.{arith}
use Rattle.sc_graph.proofs.program.Program.is_link.Goals as goal

pub returns-in-Join-Some-Fork : goal.returns-in-Join-Some-Fork
returns-in-Join-Some-Fork c = grind (arith, common_steps) steps 2000000

pub returns-in_default-4 : goal.returns-in_default-4
returns-in_default-4 c = grind (arith, common_steps) steps 2000000

pub returns-in-Child-Some-Fork : goal.returns-in-Child-Some-Fork
returns-in-Child-Some-Fork c = grind (arith, common_steps) steps 2000000

pub returns-in_default-5 : goal.returns-in_default-5
returns-in_default-5 c = grind (arith, common_steps) steps 2000000

pub returns-in_default-6 : goal.returns-in_default-6
returns-in_default-6 c = grind (arith, common_steps) steps 2000000

pub returns-in_default-2 : goal.returns-in_default-2
returns-in_default-2 c = grind (arith, common_steps) steps 2000000

pub returns-in-Depth-Some-Surf : goal.returns-in-Depth-Some-Surf
returns-in-Depth-Some-Surf c = grind (arith, common_steps) steps 2000000

pub returns-in_default-3 : goal.returns-in_default-3
returns-in_default-3 c = grind (arith, common_steps) steps 2000000

pub returns-in_default : goal.returns-in_default
returns-in_default c = grind (arith, common_steps) steps 2000000
