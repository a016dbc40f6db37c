use Rattle.sct_command.proofs.Told.{told_source}
use Rattle.std.proofs.Common.{arith, rules}
use Rattle.std.proofs.lemmas.Grind.{common_steps}
use Rattle.sct_command.proofs.explain.explain.Goals as goal

pub returns-clause-missed : goal.returns-clause-missed
returns-clause-missed g c = grind (arith, common_steps) steps 2000000

pub returns-in-Ok-Some-clause-missed : goal.returns-in-Ok-Some-clause-missed
returns-in-Ok-Some-clause-missed g c = grind (arith, common_steps) steps 2000000

pub returns-in-Err-clause-refused : goal.returns-in-Err-clause-refused
returns-in-Err-clause-refused g c = search (rules, told_source)
