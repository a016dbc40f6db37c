use Rattle.std.proofs.lemmas.Grind.{common_steps}
use Rattle.std.proofs.Common.{arith}
use Rattle.chart_texts.proofs.printer.renaming.+renaming.Goals as goal

pub shown_regions-loop-region-preserved : goal.shown_regions-loop-region-preserved
shown_regions-loop-region-preserved t c = grind (arith, common_steps) steps 2000000

pub shown_states-loop-state-preserved : goal.shown_states-loop-state-preserved
shown_states-loop-state-preserved t c = grind (arith, common_steps) steps 2000000
