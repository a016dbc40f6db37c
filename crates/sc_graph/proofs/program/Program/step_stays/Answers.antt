use Rattle.std.proofs.lemmas.Grind.{common_steps}
use Rattle.std.proofs.Common.{arith}
use Rattle.sc_graph.proofs.program.Program.step_stays.Goals as goal

pub returns-in-Depth : goal.returns-in-Depth
returns-in-Depth c = grind (arith, common_steps) steps 2000000

pub returns-in-Update : goal.returns-in-Update
returns-in-Update c = grind (arith, common_steps) steps 2000000

pub returns-in-Join : goal.returns-in-Join
returns-in-Join c = grind (arith, common_steps) steps 2000000

pub returns-in-Surf : goal.returns-in-Surf
returns-in-Surf c = grind (arith, common_steps) steps 2000000

pub returns-then-is_join : goal.returns-then-is_join
returns-then-is_join c = grind (arith, common_steps) steps 2000000

pub returns-in-Assign : goal.returns-in-Assign
returns-in-Assign c = grind (arith, common_steps) steps 2000000
