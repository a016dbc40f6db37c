use Rattle.std.proofs.Common.{arith}
use Rattle.std.proofs.lemmas.Grind.{common_steps}
use Rattle.priority_weights.proofs.least_tables.weighed.Goals as goal

pub assembled-requires-clause-parts : goal.assembled-requires-clause-parts
assembled-requires-clause-parts c = grind (arith, common_steps) steps 2000000
