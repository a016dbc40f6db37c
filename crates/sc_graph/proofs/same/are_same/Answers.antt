use Rattle.std.proofs.lemmas.Grind.{common_steps}
use Rattle.std.proofs.Common.{arith}
use Rattle.sc_graph.proofs.same.are_same.Goals as goal

pub returns-else-are_same_rows-2 : goal.returns-else-are_same_rows-2
returns-else-are_same_rows-2 c = grind (arith, common_steps) steps 2000000

pub returns-then-are_same_rows-2 : goal.returns-then-are_same_rows-2
returns-then-are_same_rows-2 c = grind (arith, common_steps) steps 2000000
