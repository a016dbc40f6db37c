use Rattle.std.proofs.lemmas.Grind.{common_steps}
use Rattle.std.proofs.Common.{arith}
use Rattle.embedded_machine.proofs.machine.carried_first.Goals as goal

pub returns-clause-inputs : goal.returns-clause-inputs
returns-clause-inputs c = grind (arith, common_steps) steps 2000000
