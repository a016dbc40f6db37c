use Rattle.std.proofs.Common.{arith}
use Rattle.std.proofs.lemmas.Grind.{common_steps}
use Rattle.chart_reduction.proofs.entries.histories.put_led.Goals as goal

pub returns-in-Ok : goal.returns-in-Ok
returns-in-Ok c = grind (arith, common_steps) steps 2000000

pub overflow_sub-copy : goal.overflow_sub-copy
overflow_sub-copy c = grind (arith, common_steps) steps 2000000

pub returns-then-not-is_by_history : goal.returns-then-not-is_by_history
returns-then-not-is_by_history c = grind (arith, common_steps) steps 2000000
