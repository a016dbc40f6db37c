use Rattle.abort_expansion.proofs.PieceParts.{region_made, simple_made, superstate_made}
use Rattle.std.proofs.Common.{arith, rules}
use Rattle.std.proofs.lemmas.Grind.{common_steps, elements}
use Rattle.abort_expansion.proofs.regions.+text.Goals as goal

pub put_inside_region-returns-in_err-put_first : goal.put_inside_region-returns-in_err-put_first
put_inside_region-returns-in_err-put_first t c = grind (arith, elements) steps 2000000

pub put_inside_region-returns-in_err-to : goal.put_inside_region-returns-in_err-to
put_inside_region-returns-in_err-to t c = grind (arith, elements) steps 2000000

pub put_inside_region-returns-in_err-put_states : goal.put_inside_region-returns-in_err-put_states
put_inside_region-returns-in_err-put_states t c = grind (arith, elements) steps 2000000

pub put_inside_superstate-returns-in_err-within : goal.put_inside_superstate-returns-in_err-within
put_inside_superstate-returns-in_err-within t c = grind (arith, elements) steps 2000000

pub put_inside_superstate-returns-in_err-enclosing : goal.put_inside_superstate-returns-in_err-enclosing
put_inside_superstate-returns-in_err-enclosing t c = grind (arith, elements) steps 2000000

pub put_inside_superstate-returns-in_err-push : goal.put_inside_superstate-returns-in_err-push
put_inside_superstate-returns-in_err-push t c = grind (arith, elements) steps 2000000

pub put_inside_superstate-returns : goal.put_inside_superstate-returns
put_inside_superstate-returns t c = grind (arith, elements) steps 2000000

pub put_regions-returns-in_err-put_region : goal.put_regions-returns-in_err-put_region
put_regions-returns-in_err-put_region t c = grind (arith, elements) steps 2000000

pub put_regions-returns-in_err-here : goal.put_regions-returns-in_err-here
put_regions-returns-in_err-here t c = grind (arith, elements) steps 2000000

pub put_states-returns-in_err-put_state : goal.put_states-returns-in_err-put_state
put_states-returns-in_err-put_state t c = grind (arith, elements) steps 2000000

pub put_states-returns-in_err-place : goal.put_states-returns-in_err-place
put_states-returns-in_err-place t c = grind (arith, elements) steps 2000000

pub put_states-returns-in_err-here : goal.put_states-returns-in_err-here
put_states-returns-in_err-here t c = grind (arith, elements) steps 2000000

pub put_inside_region-returns : goal.put_inside_region-returns
put_inside_region-returns t c = grind (arith, common_steps) steps 2000000

pub put_region-returns : goal.put_region-returns
put_region-returns t c = search (rules, region_made)

pub put_regions-loop-region-preserved : goal.put_regions-loop-region-preserved
put_regions-loop-region-preserved t c = grind (arith, common_steps) steps 2000000

pub put_regions-returns : goal.put_regions-returns
put_regions-returns t c = grind (arith, common_steps) steps 2000000

pub put_state-returns-then-not-is_superstate : goal.put_state-returns-then-not-is_superstate
put_state-returns-then-not-is_superstate t c = search (rules, simple_made)

pub put_states-returns : goal.put_states-returns
put_states-returns t c = grind (arith, common_steps) steps 2000000

pub put_state-returns : goal.put_state-returns
put_state-returns t c = search (rules, superstate_made)
