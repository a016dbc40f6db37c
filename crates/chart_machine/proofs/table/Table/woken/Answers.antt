use Rattle.std.proofs.Common.{arith}
use Rattle.std.proofs.lemmas.Grind.{common_steps}
use Rattle.chart_machine.proofs.table.Table.woken.Goals as goal

pub returns-in_ok-copied_transitions-in-Trying : goal.returns-in_ok-copied_transitions-in-Trying
returns-in_ok-copied_transitions-in-Trying c = grind (arith, common_steps) steps 2000000
