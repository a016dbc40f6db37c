use Rattle.std.proofs.lemmas.Grind.{common_steps}
use Rattle.std.proofs.Common.{arith}
use Rattle.embedded_machine.proofs.calls.react_shown.Goals as goal

pub returns-clause-ticked : goal.returns-clause-ticked
returns-clause-ticked c = grind (arith, common_steps) steps 2000000
