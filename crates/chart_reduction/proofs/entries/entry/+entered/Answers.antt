use Rattle.chart_reduction.proofs.EntryFolded.{state_entered}
use Rattle.std.proofs.Common.{arith, rules}
use Rattle.std.proofs.lemmas.Grind.{common_steps}
use Rattle.chart_reduction.proofs.entries.entry.+entered.Goals as goal

pub put_regions-loop-region-preserved : goal.put_regions-loop-region-preserved
put_regions-loop-region-preserved t c = grind (arith, common_steps) steps 2000000

pub put_states-loop-state-preserved : goal.put_states-loop-state-preserved
put_states-loop-state-preserved t c = grind (arith, common_steps) steps 2000000

pub put_standing-returns-after-state : goal.put_standing-returns-after-state
put_standing-returns-after-state t c = search (rules, state_entered)
