use Rattle.std.proofs.Common.{arith}
use Rattle.std.proofs.lemmas.Grind.{common_steps}
use Rattle.chart_texts.proofs.printer.names.+naming.Goals as goal

pub put_rivals-loop-region-preserved : goal.put_rivals-loop-region-preserved
put_rivals-loop-region-preserved t c = grind (arith, common_steps) steps 2000000

pub put_rivals-returns : goal.put_rivals-returns
put_rivals-returns t c = grind (arith, common_steps) steps 2000000

pub put_rivals_of_region-loop-state-preserved : goal.put_rivals_of_region-loop-state-preserved
put_rivals_of_region-loop-state-preserved t c = grind (arith, common_steps) steps 2000000

pub put_rivals_of_region-returns : goal.put_rivals_of_region-returns
put_rivals_of_region-returns t c = grind (arith, common_steps) steps 2000000
