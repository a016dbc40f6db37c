use Rattle.chart_reduction.proofs.Folded.{state_states}
use Rattle.std.proofs.Common.{arith, rules}
use Rattle.std.proofs.lemmas.Grind.{common_steps, elements}
use Rattle.chart_reduction.proofs.rows.+states.Goals as goal

pub states_in_regions-returns-in_err-states_in_region : goal.states_in_regions-returns-in_err-states_in_region
states_in_regions-returns-in_err-states_in_region t c = grind (arith, elements) steps 2000000

pub states_in_regions-returns-in_err-append : goal.states_in_regions-returns-in_err-append
states_in_regions-returns-in_err-append t c = grind (arith, elements) steps 2000000

pub states_in_states-returns-in_err-states_in_state : goal.states_in_states-returns-in_err-states_in_state
states_in_states-returns-in_err-states_in_state t c = grind (arith, elements) steps 2000000

pub states_in_states-returns-in_err-append : goal.states_in_states-returns-in_err-append
states_in_states-returns-in_err-append t c = grind (arith, elements) steps 2000000

pub states_in_regions-loop-region-preserved : goal.states_in_regions-loop-region-preserved
states_in_regions-loop-region-preserved t c = grind (arith, common_steps) steps 2000000

pub states_in_regions-returns : goal.states_in_regions-returns
states_in_regions-returns t c = grind (arith, common_steps) steps 2000000

pub states_in_state-returns : goal.states_in_state-returns
states_in_state-returns t c = search (rules, state_states)

pub states_in_states-loop-state-preserved : goal.states_in_states-loop-state-preserved
states_in_states-loop-state-preserved t c = grind (arith, common_steps) steps 2000000

pub states_in_states-returns : goal.states_in_states-returns
states_in_states-returns t c = grind (arith, common_steps) steps 2000000
