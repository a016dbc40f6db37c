use Rattle.std.proofs.Common.{arith}
use Rattle.std.proofs.lemmas.Grind.{common_steps}
use Rattle.sct_command.proofs.keep.keep_image.Goals as goal

pub returns-clause-missed : goal.returns-clause-missed
returns-clause-missed g c = grind (arith, common_steps) steps 2000000

pub returns-clause-refused : goal.returns-clause-refused
returns-clause-refused g c = grind (arith, common_steps) steps 2000000

pub returns-clause-none_missed : goal.returns-clause-none_missed
returns-clause-none_missed g c = grind (arith, common_steps) steps 2000000

pub returns-clause-done : goal.returns-clause-done
returns-clause-done g c = grind (arith, common_steps) steps 2000000
