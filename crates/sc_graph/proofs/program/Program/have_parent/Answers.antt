use Rattle.std.proofs.lemmas.Grind.{common_steps}
use Rattle.std.proofs.Common.{arith}
use Rattle.sc_graph.proofs.program.Program.have_parent.Goals as goal

pub loop-child-preserved : goal.loop-child-preserved
loop-child-preserved c = grind (arith, common_steps) steps 2000000
