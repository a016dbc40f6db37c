use Rattle.std.proofs.lemmas.Grind.{elements, common_steps}
use Rattle.std.proofs.Common.{arith}
use Rattle.sc_graph.proofs.resting.are_present.Goals as goal

pub loop-child-preserved : goal.loop-child-preserved
loop-child-preserved c = grind (arith, elements) steps 2000000

pub returns : goal.returns
returns c = grind (arith, elements) steps 2000000

pub returns-then-is_present-wanted : goal.returns-then-is_present-wanted
returns-then-is_present-wanted c = grind (arith, common_steps) steps 2000000
