use Rattle.std.proofs.lemmas.Grind.{common_steps}
use Rattle.std.proofs.Common.{arith}
use Rattle.sc_graph.proofs.resting.rests_at.Goals as goal

pub returns-in-Waiting : goal.returns-in-Waiting
returns-in-Waiting c = grind (arith, common_steps) steps 2000000

pub returns-in-Paused : goal.returns-in-Paused
returns-in-Paused c = grind (arith, common_steps) steps 2000000
