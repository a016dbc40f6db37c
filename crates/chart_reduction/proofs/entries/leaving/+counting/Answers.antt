use Rattle.std.proofs.Common.{arith}
use Rattle.std.proofs.lemmas.Grind.{common_steps}
use Rattle.chart_reduction.proofs.entries.leaving.+counting.Goals as goal

pub inside-loop-state-preserved : goal.inside-loop-state-preserved
inside-loop-state-preserved t c = grind (arith, common_steps) steps 2000000

pub notes_in-loop-region-preserved : goal.notes_in-loop-region-preserved
notes_in-loop-region-preserved t c = grind (arith, common_steps) steps 2000000
