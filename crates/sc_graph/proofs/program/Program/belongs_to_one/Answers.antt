use Rattle.std.proofs.lemmas.Grind.{common_steps}
use Rattle.std.proofs.Common.{arith}
use Rattle.sc_graph.proofs.program.Program.belongs_to_one.Goals as goal

pub returns-in-Join : goal.returns-in-Join
returns-in-Join c = grind (arith, common_steps) steps 2000000

pub returns-in_default : goal.returns-in_default
returns-in_default c = grind (arith, common_steps) steps 2000000

pub returns-in-Depth : goal.returns-in-Depth
returns-in-Depth c = grind (arith, common_steps) steps 2000000
