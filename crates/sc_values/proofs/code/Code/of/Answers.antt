use Rattle.sc_values.proofs.Spelling.{spelt_once}
use Rattle.std.proofs.lemmas.Grind.{common_steps}
use Rattle.std.proofs.Common.{arith, rules}
use Rattle.sc_values.proofs.code.Code.of.Goals as goal

pub returns-then-is_some-clause-formed : goal.returns-then-is_some-clause-formed
returns-then-is_some-clause-formed c = grind (arith, common_steps) steps 2000000

pub returns-then-is_some-clause-one_tree : goal.returns-then-is_some-clause-one_tree
returns-then-is_some-clause-one_tree c = search (rules, spelt_once)
