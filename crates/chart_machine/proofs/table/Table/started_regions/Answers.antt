use Rattle.std.proofs.Common.{arith}
use Rattle.std.proofs.lemmas.Grind.{common_steps}
use Rattle.chart_machine.proofs.table.Table.started_regions.Goals as goal

pub returns-then-are_outside : goal.returns-then-are_outside
returns-then-are_outside c = grind (arith, common_steps) steps 2000000
