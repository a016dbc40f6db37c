use Rattle.std.proofs.Common.{arith}
use Rattle.std.proofs.lemmas.Grind.{common_steps}
use Rattle.chart_reduction.proofs.entries.departures.put_departures.Goals as goal

pub returns : goal.returns
returns c = grind (arith, common_steps) steps 2000000

pub loop-exit-preserved : goal.loop-exit-preserved
loop-exit-preserved c = grind (arith, common_steps) steps 2000000
