use Rattle.std.proofs.Common.{arith}
use Rattle.std.proofs.lemmas.Grind.{common_steps}
use Rattle.chart_reduction.proofs.values.ending_regions.put_first_states.Goals as goal

pub returns-else-at_once : goal.returns-else-at_once
returns-else-at_once c = grind (arith, common_steps) steps 2000000

pub returns-in_ok-next : goal.returns-in_ok-next
returns-in_ok-next c = grind (arith, common_steps) steps 2000000
