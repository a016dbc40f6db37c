use Rattle.std.proofs.Common.{arith}
use Rattle.std.proofs.lemmas.Grind.{common_steps}
use Rattle.priority_weights.proofs.bounds.bounds.Goals as goal

pub returns : goal.returns
returns c = grind (arith, common_steps) steps 2000000

pub raise-requires-clause-under : goal.raise-requires-clause-under
raise-requires-clause-under c = grind (arith, common_steps) steps 2000000
