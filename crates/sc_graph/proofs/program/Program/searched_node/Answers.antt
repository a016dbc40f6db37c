use Rattle.std.proofs.lemmas.Grind.{elements, common_steps}
use Rattle.std.proofs.Common.{arith}
use Rattle.sc_graph.proofs.program.Program.searched_node.Goals as goal

pub returns-clause-once : goal.returns-clause-once
returns-clause-once c = grind (arith, elements) steps 2000000

pub returns-then-is_some-clause-once : goal.returns-then-is_some-clause-once
returns-then-is_some-clause-once c = grind (arith, common_steps) steps 2000000
