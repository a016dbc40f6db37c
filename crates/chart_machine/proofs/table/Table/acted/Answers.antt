use Rattle.std.proofs.Common.{arith}
use Rattle.std.proofs.lemmas.Grind.{common_steps}
use Rattle.chart_machine.proofs.table.Table.acted.Goals as goal

pub returns-in_default : goal.returns-in_default
returns-in_default c = grind (arith, common_steps) steps 2000000

pub returns-in_default-value_of : goal.returns-in_default-value_of
returns-in_default-value_of c = grind (arith, common_steps) steps 2000000
