use Rattle.std.proofs.Common.{arith}
use Rattle.std.proofs.lemmas.Grind.{common_steps, elements}
use Rattle.priority_weights.proofs.fault.WalkDisplay.fmt.Goals as goal

pub returns-clause-writes : goal.returns-clause-writes
returns-clause-writes g c = grind (arith, elements) steps 2000000

pub returns-clause-styled : goal.returns-clause-styled
returns-clause-styled g c = grind (arith, elements) steps 2000000

pub loop-node-preserved : goal.loop-node-preserved
loop-node-preserved g c = grind (arith, common_steps) steps 2000000
