use Rattle.std.proofs.lemmas.Grind.{elements}
use Rattle.std.proofs.Common.{arith}
use Rattle.sc_graph.proofs.program.Program.thread_stands.Goals as goal

pub returns-in-None : goal.returns-in-None
returns-in-None c = grind (arith, elements) steps 2000000

pub returns-then-is_target : goal.returns-then-is_target
returns-then-is_target c = grind (arith, elements) steps 2000000

pub returns-else-is_target : goal.returns-else-is_target
returns-else-is_target c = grind (arith, elements) steps 2000000
