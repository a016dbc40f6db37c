use Rattle.std.proofs.Common.{arith}
use Rattle.std.proofs.lemmas.Grind.{common_steps}
use Rattle.sct_command.proofs.test.test_files.Goals as goal

pub returns-clause-refused : goal.returns-clause-refused
returns-clause-refused g c = grind (arith, common_steps) steps 2000000

pub returns-then-failed-eq0-clause-done : goal.returns-then-failed-eq0-clause-done
returns-then-failed-eq0-clause-done g c = grind (arith, common_steps) steps 2000000
