use Rattle.std.proofs.lemmas.Grind.{common_steps, elements}
use Rattle.std.proofs.Common.{arith}
use Rattle.controller_tests.proofs.command.trying.try_tests.Goals as goal

pub returns-clause-none_missed : goal.returns-clause-none_missed
returns-clause-none_missed g c = grind (arith, common_steps) steps 2000000

pub returns-clause-kept : goal.returns-clause-kept
returns-clause-kept g c = grind (arith, common_steps) steps 2000000

pub returns-clause-tried : goal.returns-clause-tried
returns-clause-tried g c = grind (arith, elements) steps 2000000
