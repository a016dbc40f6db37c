use Rattle.diagnostics.proofs.Joining.{stands_so}
use Rattle.std.proofs.lemmas.Grind.{common_steps}
use Rattle.std.proofs.Common.{arith, rules}
use Rattle.diagnostics.proofs.lists.telling.all_explained.Goals as goal

pub returns-clause-begins : goal.returns-clause-begins
returns-clause-begins c = grind (arith, common_steps) steps 2000000

pub returns-clause-all : goal.returns-clause-all
returns-clause-all c = grind (arith, common_steps) steps 2000000

pub returns-clause-place : goal.returns-clause-place
returns-clause-place c = search (rules, stands_so)
