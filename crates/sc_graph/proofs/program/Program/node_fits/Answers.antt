use Rattle.std.proofs.lemmas.Grind.{elements}
use Rattle.std.proofs.Common.{arith}
use Rattle.sc_graph.proofs.program.Program.node_fits.Goals as goal

pub returns-in-None : goal.returns-in-None
returns-in-None c = grind (arith, elements) steps 2000000

pub returns-then-has_thread : goal.returns-then-has_thread
returns-then-has_thread c = grind (arith, elements) steps 2000000

pub returns-else-has_thread : goal.returns-else-has_thread
returns-else-has_thread c = grind (arith, elements) steps 2000000
