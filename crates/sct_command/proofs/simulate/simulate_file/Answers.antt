use Rattle.std.proofs.Common.{arith}
use Rattle.std.proofs.lemmas.Grind.{common_steps, elements}
use Rattle.sct_command.proofs.simulate.simulate_file.Goals as goal

pub returns-clause-end : goal.returns-clause-end
returns-clause-end g c = grind (arith, common_steps) steps 2000000

pub returns-clause-refused : goal.returns-clause-refused
returns-clause-refused g c = grind (arith, common_steps) steps 2000000

pub returns-in-Ok-clause-none_read : goal.returns-in-Ok-clause-none_read
returns-in-Ok-clause-none_read g c = grind (arith, common_steps) steps 2000000

pub returns-in-Ok-clause-done : goal.returns-in-Ok-clause-done
returns-in-Ok-clause-done g c = grind (arith, common_steps) steps 2000000

pub returns-in-Ok-clause-none_failed : goal.returns-in-Ok-clause-none_failed
returns-in-Ok-clause-none_failed g c = grind (arith, common_steps) steps 2000000

pub returns-clause-read : goal.returns-clause-read
returns-clause-read g c = grind (arith, common_steps) steps 2000000

pub returns-clause-failed : goal.returns-clause-failed
returns-clause-failed g c = grind (arith, common_steps) steps 2000000

pub returns-in-Ok-clause-end : goal.returns-in-Ok-clause-end
returns-in-Ok-clause-end g c = grind (arith, common_steps) steps 2000000

pub returns-in_err-image-clause-refused : goal.returns-in_err-image-clause-refused
returns-in_err-image-clause-refused g c = grind (arith, elements) steps 2000000
