use Rattle.std.proofs.Common.{arith}
use Rattle.std.proofs.lemmas.Grind.{common_steps}
use Rattle.chart_reduction.proofs.Folded.{transitions_put}
use Rattle.chart_reduction.proofs.rows.+transitions.Goals as goal

pub transitions_in_state-returns : goal.transitions_in_state-returns
transitions_in_state-returns t c =
    transitions_put c.args.state.now _ _ _ _ _ _ _ _ c.as_slice.ensures c.in_ok-made.ensures c.as_slice-2.ensures c.in_ok-of_transitions.ensures
    c.in_ok-append.ensures c.as_slice-3.ensures c.in_ok-transitions_in_regions.ensures c.in_ok-append-2.ensures

pub transitions_in_regions-loop-region-preserved : goal.transitions_in_regions-loop-region-preserved
transitions_in_regions-loop-region-preserved t c = grind (arith, common_steps) steps 2000000

pub transitions_in_regions-returns : goal.transitions_in_regions-returns
transitions_in_regions-returns t c = grind (arith, common_steps) steps 2000000

pub transitions_in_states-loop-state-preserved : goal.transitions_in_states-loop-state-preserved
transitions_in_states-loop-state-preserved t c = grind (arith, common_steps) steps 2000000

pub transitions_in_states-returns : goal.transitions_in_states-returns
transitions_in_states-returns t c = grind (arith, common_steps) steps 2000000
