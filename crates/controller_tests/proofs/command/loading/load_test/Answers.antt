use Rattle.controller_tests.proofs.Verdicts.{no_image}
use Rattle.std.proofs.lemmas.Grind.{common_steps}
use Rattle.std.proofs.Common.{arith, rules}
use Rattle.controller_tests.proofs.command.loading.load_test.Goals as goal

pub returns-clause-missed : goal.returns-clause-missed
returns-clause-missed g c = grind (arith, common_steps) steps 2000000

pub returns-clause-none_missed : goal.returns-clause-none_missed
returns-clause-none_missed g c = grind (arith, common_steps) steps 2000000

pub returns-in_err-compiled-clause-lacks : goal.returns-in_err-compiled-clause-lacks
returns-in_err-compiled-clause-lacks g c = search (rules, no_image)
