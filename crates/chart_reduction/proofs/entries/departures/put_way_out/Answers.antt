use Rattle.std.proofs.Common.{arith}
use Rattle.std.proofs.lemmas.Grind.{common_steps}
use Rattle.chart_reduction.proofs.entries.departures.put_way_out.Goals as goal

pub loop-leaving-preserved : goal.loop-leaving-preserved
loop-leaving-preserved c = grind (arith, common_steps) steps 2000000
