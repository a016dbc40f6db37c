use Rattle.std.proofs.Common.{arith}
use Rattle.std.proofs.lemmas.Grind.{common_steps}
use Rattle.core_charts.proofs.rules.is_plain_join.Goals as goal

pub returns-else-not-transition : goal.returns-else-not-transition
returns-else-not-transition c = grind (arith, common_steps) steps 2000000
