use Rattle.std.proofs.lemmas.Grind.{common_steps}
use Rattle.std.proofs.Common.{string_bytes, ◌∙◌, arith}
use Rattle.chart_texts.proofs.Pieces.{three, four, region_lines, open_lines}
use Rattle.chart_texts.proofs.printer.regions.+printing.Goals as goal

pub put_region-returns : goal.put_region-returns
put_region-returns t c =
    three (string_bytes c.args.text.now) _ _ _ _ _ _ _ c.in_ok-put_head.ensures c.in_ok-put_states.ensures c.in_ok-put_line.ensures
    (region_lines c.args.variables.now c.args.region.now c.args.margin.now c.as_str-words.result.now c.as_str-space.result.now
    c.as_slice-states.result.now (c.as_str-words.ensures.value ∙ c.in_ok-head.ensures)
    (c.as_str-space.ensures.value ∙ c.in_ok-inner.ensures) c.as_slice-states.ensures)

pub put_state-returns : goal.put_state-returns
put_state-returns t c =
    four (string_bytes c.args.text.now) _ _ _ _ _ _ _ _ _ c.in_ok-put_head.ensures c.in_ok-put_regions.ensures
    c.in_ok-put_transitions.ensures c.in_ok-put_line.ensures
    (open_lines c.args.variables.now c.args.state.now c.args.states.now c.args.margin.now c.as_str-words.result.now
    c.as_str-space.result.now c.as_slice-regions.result.now c.as_slice-own.result.now c.is_bare.result
    (c.as_str-words.ensures.value ∙ c.in_ok-head.ensures) (c.as_str-space.ensures.value ∙ c.in_ok-inner.ensures)
    c.as_slice-regions.ensures c.as_slice-own.ensures c.is_bare.ensures.value c.if-is_bare.false)

pub put_regions-loop-region-preserved : goal.put_regions-loop-region-preserved
put_regions-loop-region-preserved t c = grind (arith, common_steps) steps 2000000

pub put_regions-returns : goal.put_regions-returns
put_regions-returns t c = grind (arith, common_steps) steps 2000000

pub put_states-loop-state-preserved : goal.put_states-loop-state-preserved
put_states-loop-state-preserved t c = grind (arith, common_steps) steps 2000000

pub put_states-returns : goal.put_states-returns
put_states-returns t c = grind (arith, common_steps) steps 2000000

pub put_state-deeper-requires-text-margin : goal.put_state-deeper-requires-text-margin
put_state-deeper-requires-text-margin t c = grind (arith, common_steps) steps 2000000

pub put_state-put_line-requires-text-margin : goal.put_state-put_line-requires-text-margin
put_state-put_line-requires-text-margin t c = grind (arith, common_steps) steps 2000000

pub put_region-put_line-requires-text-margin : goal.put_region-put_line-requires-text-margin
put_region-put_line-requires-text-margin t c = grind (arith, common_steps) steps 2000000
