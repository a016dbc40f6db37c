use Rattle.std.proofs.Common.{arith}
use Rattle.std.proofs.lemmas.Grind.{common_steps}
use Rattle.verifier.proofs.codes.is_condition.Goals as goal

pub returns-in-Some-Bool : goal.returns-in-Some-Bool
returns-in-Some-Bool c = grind (arith, common_steps) steps 2000000

pub returns-in-None : goal.returns-in-None
returns-in-None c = grind (arith, common_steps) steps 2000000

pub returns-in-Some-Int : goal.returns-in-Some-Int
returns-in-Some-Int c = grind (arith, common_steps) steps 2000000
