use Rattle.std.proofs.lemmas.Grind.{common_steps}
use Rattle.std.proofs.Common.{arith}
use Rattle.simulation.proofs.history.lines_of.Goals as goal

pub loop-tick-preserved : goal.loop-tick-preserved
loop-tick-preserved c = grind (arith, common_steps) steps 2000000

pub returns : goal.returns
returns c = grind (arith, common_steps) steps 2000000
