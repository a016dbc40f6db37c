use Rattle.std.proofs.lemmas.Grind.{common_steps}
use Rattle.std.proofs.Common.{arith}
use Rattle.chart_machine.proofs.numbering.+states.Goals as goal

pub past_states-loop-region-preserved : goal.past_states-loop-region-preserved
past_states-loop-region-preserved t c = grind (arith, common_steps) steps 2000000

pub past_states-returns : goal.past_states-returns
past_states-returns t c = grind (arith, common_steps) steps 2000000

pub past_states_of_region-loop-state-preserved : goal.past_states_of_region-loop-state-preserved
past_states_of_region-loop-state-preserved t c = grind (arith, common_steps) steps 2000000

pub past_states_of_region-returns : goal.past_states_of_region-returns
past_states_of_region-returns t c = grind (arith, common_steps) steps 2000000
