use Rattle.std.proofs.lemmas.Grind.{common_steps}
use Rattle.std.proofs.Common.{arith}
use Rattle.sc_graph.proofs.links.note_all.Goals as goal

pub loop-target-preserved : goal.loop-target-preserved
loop-target-preserved c = grind (arith, common_steps) steps 2000000
