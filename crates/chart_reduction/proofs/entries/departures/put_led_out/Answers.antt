use Rattle.std.proofs.Common.{arith}
use Rattle.std.proofs.lemmas.Grind.{common_steps}
use Rattle.chart_reduction.proofs.entries.departures.put_led_out.Goals as goal

pub returns : goal.returns
returns c = grind (arith, common_steps) steps 2000000

pub loop-transition-preserved : goal.loop-transition-preserved
loop-transition-preserved c = grind (arith, common_steps) steps 2000000
