use Rattle.std.proofs.Common.{arith}
use Rattle.std.proofs.lemmas.Grind.{common_steps}
use Rattle.scl_graph.proofs.hops.doubled.Goals as goal

pub loop-hop-preserved : goal.loop-hop-preserved
loop-hop-preserved c = grind (arith, common_steps) steps 2000000

pub returns : goal.returns
returns c = grind (arith, common_steps) steps 2000000
