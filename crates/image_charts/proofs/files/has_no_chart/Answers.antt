use Rattle.std.proofs.lemmas.Grind.{common_steps}
use Rattle.std.proofs.Common.{arith}
use Rattle.image_charts.proofs.files.has_no_chart.Goals as goal

pub returns-in-Scl : goal.returns-in-Scl
returns-in-Scl c = grind (arith, common_steps) steps 2000000

pub returns-in-Err : goal.returns-in-Err
returns-in-Err c = grind (arith, common_steps) steps 2000000

pub returns-then-begins_extended : goal.returns-then-begins_extended
returns-then-begins_extended c = grind (arith, common_steps) steps 2000000

pub returns-in-Chart : goal.returns-in-Chart
returns-in-Chart c = grind (arith, common_steps) steps 2000000
