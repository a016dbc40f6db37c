use Rattle.std.proofs.lemmas.Grind.{common_steps}
use Rattle.std.proofs.Common.{arith}
use Rattle.embedded_machine.proofs.states.paths_ended_by_zero.Goals as goal

pub returns : goal.returns
returns c = grind (arith, common_steps) steps 2000000

pub loop-path-preserved : goal.loop-path-preserved
loop-path-preserved c = grind (arith, common_steps) steps 2000000
