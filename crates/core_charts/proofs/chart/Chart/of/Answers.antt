use Rattle.std.proofs.Common.{arith}
use Rattle.std.proofs.lemmas.Grind.{common_steps}
use Rattle.core_charts.proofs.chart.Chart.of.Goals as goal

pub returns-then-branch : goal.returns-then-branch
returns-then-branch c = grind (arith, common_steps) steps 2000000

pub known-requires : goal.known-requires
known-requires c = grind (arith, common_steps) steps 2000000
