use Rattle.std.proofs.Common.{arith}
use Rattle.std.proofs.lemmas.Grind.{common_steps}
use Rattle.scl_graph.proofs.tallies.sizes.Goals as goal

pub loop-tally-preserved : goal.loop-tally-preserved
loop-tally-preserved c = grind (arith, common_steps) steps 2000000

pub returns : goal.returns
returns c = grind (arith, common_steps) steps 2000000

pub of-requires : goal.of-requires
of-requires c = grind (arith, common_steps) steps 2000000
