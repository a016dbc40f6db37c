use Rattle.std.proofs.lemmas.Grind.{common_steps}
use Rattle.std.proofs.Common.{arith}
use Rattle.controller_tests.proofs.command.verdict.make.Goals as goal

pub returns-in_ok-fault_said-in-Err : goal.returns-in_ok-fault_said-in-Err
returns-in_ok-fault_said-in-Err c = grind (arith, common_steps) steps 2000000
