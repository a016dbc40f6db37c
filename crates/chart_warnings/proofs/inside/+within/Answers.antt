use Rattle.std.proofs.lemmas.Grind.{common_steps}
use Rattle.std.proofs.Common.{◌≡◌, ◌++◌, map, ap, sym, ◌∙◌, arith}
use Rattle.core_charts.specs.declared.region.Region.TheViews.{out-State}
use Rattle.chart_warnings.specs.Names.{joined, within_region, within_state}
use Rattle.chart_warnings.specs.Inside.Marks.{all_by, marked}
use Rattle.chart_warnings.proofs.Marking.{both_marked, piece_marked, region_is, state_is}
use Rattle.chart_warnings.proofs.inside.+within.Goals as goal

pub mark_regions-loop-region-preserved : goal.mark_regions-loop-region-preserved
mark_regions-loop-region-preserved t c =
    let r : _ = c.region-item.result in
    let more : c.mark_states.new.marks.items ≡ marked (all_by c.args.way (within_region r)) c.loop-region.marks.items =
    c.mark_states.ensures
    ∙ ap (λ ss. marked (all_by c.args.way (joined (map within_state ss))) c.loop-region.marks.items) c.as_slice.ensures
    ∙ ap (λ ts. marked (all_by c.args.way ts) c.loop-region.marks.items) (sym (region_is r)) in
    piece_marked c.args.way within_region c.args.regions.now c.loop-region.region-index r c.loop-region.marks.items
    c.mark_states.new.marks.items (marked (all_by c.args.way (joined (map within_region c.args.regions.now))) c.args.marks.now.items)
    c.loop-region-test.true c.region-item.is more c.loop-region.invariant

pub mark_states-loop-state-preserved : goal.mark_states-loop-state-preserved
mark_states-loop-state-preserved t c =
    piece_marked c.args.way within_state c.args.states.now c.loop-state.state-index c.state-item.result c.loop-state.marks.items
    c.mark_state.new.marks.items (marked (all_by c.args.way (joined (map within_state c.args.states.now))) c.args.marks.now.items)
    c.loop-state-test.true c.state-item.is c.mark_state.ensures c.loop-state.invariant

pub mark_state-returns : goal.mark_state-returns
mark_state-returns t c =
    let s : _ = c.args.state.now in
    let whole : within_state s ≡ joined (map within_region c.as_slice.result.now) ++ c.as_slice-2.result.now =
    state_is s
    ∙ ap (λ rs. joined (map within_region rs) ++ (out-State s).transitions) (sym c.as_slice.ensures)
    ∙ ap (λ ts. joined (map within_region c.as_slice.result.now) ++ ts) (sym c.as_slice-2.ensures) in
    both_marked c.args.way (joined (map within_region c.as_slice.result.now)) c.as_slice-2.result.now (within_state s)
    c.args.marks.now.items c.mark_regions.new.marks.items c.mark_transitions.new.marks.items
    c.mark_regions.ensures c.mark_transitions.ensures whole

pub mark_states-returns : goal.mark_states-returns
mark_states-returns t c = grind (arith, common_steps) steps 2000000

pub mark_regions-returns : goal.mark_regions-returns
mark_regions-returns t c = grind (arith, common_steps) steps 2000000
