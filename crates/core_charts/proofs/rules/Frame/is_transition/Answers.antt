use Rattle.std.proofs.Common.{arith}
use Rattle.std.proofs.lemmas.Grind.{common_steps}
use Rattle.core_charts.proofs.rules.Frame.is_transition.Goals as goal

pub returns-else-are_effects : goal.returns-else-are_effects
returns-else-are_effects c = grind (arith, common_steps) steps 2000000
