use Rattle.std.proofs.lemmas.Grind.{elements}
use Rattle.std.proofs.Common.{arith}
use Rattle.sc_graph.proofs.program.Program.node_stands.Goals as goal

pub returns-in-None : goal.returns-in-None
returns-in-None c = grind (arith, elements) steps 2000000

pub returns-then-step_stays : goal.returns-then-step_stays
returns-then-step_stays c = grind (arith, elements) steps 2000000

pub returns-else-step_stays : goal.returns-else-step_stays
returns-else-step_stays c = grind (arith, elements) steps 2000000
