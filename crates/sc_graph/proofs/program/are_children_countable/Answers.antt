use Rattle.std.proofs.lemmas.Grind.{elements}
use Rattle.std.proofs.Common.{arith}
use Rattle.sc_graph.proofs.program.are_children_countable.Goals as goal

pub loop-node-preserved : goal.loop-node-preserved
loop-node-preserved c = grind (arith, elements) steps 2000000

pub returns-then-not-counts_children : goal.returns-then-not-counts_children
returns-then-not-counts_children c = grind (arith, elements) steps 2000000

pub returns : goal.returns
returns c = grind (arith, elements) steps 2000000
