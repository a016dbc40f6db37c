use Rattle.controller_tests.proofs.Alike.{differ_not_same}
use Rattle.std.proofs.lemmas.Grind.{common_steps}
use Rattle.std.proofs.Common.{arith, rules}
use Rattle.controller_tests.proofs.difference.compare.Goals as goal

pub returns-in_ok-kept-in-Some-2-clause-differ : goal.returns-in_ok-kept-in-Some-2-clause-differ
returns-in_ok-kept-in-Some-2-clause-differ c = grind (arith, common_steps) steps 2000000

pub returns-in_ok-kept-in-Some-2-clause-same : goal.returns-in_ok-kept-in-Some-2-clause-same
returns-in_ok-kept-in-Some-2-clause-same c = search (rules, differ_not_same)
