use Rattle.std.proofs.lemmas.Grind.{common_steps}
use Rattle.std.proofs.Common.{arith}
use Rattle.controller_tests.proofs.difference.first_difference.Goals as goal

pub returns-then-not-are_same-clause-some : goal.returns-then-not-are_same-clause-some
returns-then-not-are_same-clause-some c = grind (arith, common_steps) steps 2000000
