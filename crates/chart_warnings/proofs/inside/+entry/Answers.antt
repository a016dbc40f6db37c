use Rattle.std.proofs.lemmas.Grind.{common_steps}
use Rattle.std.proofs.Common.{◌≡◌, ◌++◌, map, ap, sym, ◌∙◌, arith}
use Rattle.core_charts.specs.declared.region.Region.TheViews.{out-State}
use Rattle.core_charts.specs.Tests.{at_once}
use Rattle.chart_warnings.specs.Names.{joined, entered, when_initial, entry_of_region, entry_of_state}
use Rattle.chart_warnings.specs.Inside.Marks.{all_by, marked}
use Rattle.chart_warnings.proofs.Marking.{both_marked, piece_marked, entry_marked, region_entry_is, entry_is, initial_is_entered, others_are_not}
use Rattle.chart_warnings.proofs.inside.+entry.Goals.{mark_initial-then-state, mark_initial-else-state}
use Rattle.chart_warnings.proofs.inside.+entry.Goals as goal

pub mark_entered-loop-region-preserved : goal.mark_entered-loop-region-preserved
mark_entered-loop-region-preserved t c =
    let r : _ = c.region-item.result in
    let more : c.mark_initial.new.marks.items ≡ marked (all_by c.args.way (entry_of_region r)) c.loop-region.marks.items =
    c.mark_initial.ensures
    ∙ ap (λ ss. marked (all_by c.args.way (entered (map entry_of_state ss))) c.loop-region.marks.items) c.as_slice.ensures
    ∙ ap (λ ts. marked (all_by c.args.way ts) c.loop-region.marks.items) (sym (region_entry_is r)) in
    piece_marked c.args.way entry_of_region c.args.regions.now c.loop-region.region-index r c.loop-region.marks.items
    c.mark_initial.new.marks.items (marked (all_by c.args.way (joined (map entry_of_region c.args.regions.now))) c.args.marks.now.items)
    c.loop-region-test.true c.region-item.is more c.loop-region.invariant

pub mark_initial-loop-state-preserved : goal.mark_initial-loop-state-preserved
mark_initial-loop-state-preserved t c =
    let s : _ = c.state-item.result in
    let more : c.if-state.marks.items ≡ marked (all_by c.args.way (when_initial (entry_of_state s))) c.loop-state.marks.items =
    elim c.if-state.branch [
      | mark_initial-then-state w ↦
          ap (λ v. v.items) w.marks-is
          ∙ w.mark_entry.ensures
          ∙ ap (λ ts. marked (all_by c.args.way ts) c.loop-state.marks.items) (sym (initial_is_entered s w.if-state.true))
      | mark_initial-else-state w ↦
          ap (λ v. v.items) w.marks-is
          ∙ ap (λ ts. marked (all_by c.args.way ts) c.loop-state.marks.items) (sym (others_are_not s w.if-state.false))
    ] in
    entry_marked c.args.way c.args.states.now c.loop-state.state-index s c.loop-state.marks.items c.if-state.marks.items
    (marked (all_by c.args.way (entered (map entry_of_state c.args.states.now))) c.args.marks.now.items)
    c.loop-state-test.true c.state-item.is more c.loop-state.invariant

pub mark_entry-returns : goal.mark_entry-returns
mark_entry-returns t c =
    let s : _ = c.args.state.now in
    let whole : (entry_of_state s).transitions ≡ at_once c.as_slice.result.now ++ joined (map entry_of_region c.as_slice-2.result.now) =
    entry_is s
    ∙ ap (λ ts. at_once ts ++ joined (map entry_of_region (out-State s).regions)) (sym c.as_slice.ensures)
    ∙ ap (λ rs. at_once c.as_slice.result.now ++ joined (map entry_of_region rs)) (sym c.as_slice-2.ensures) in
    both_marked c.args.way (at_once c.as_slice.result.now) (joined (map entry_of_region c.as_slice-2.result.now)) (entry_of_state s).transitions
    c.args.marks.now.items c.mark_immediate.new.marks.items c.mark_entered.new.marks.items
    c.mark_immediate.ensures c.mark_entered.ensures whole

pub mark_initial-returns : goal.mark_initial-returns
mark_initial-returns t c = grind (arith, common_steps) steps 2000000

pub mark_entered-returns : goal.mark_entered-returns
mark_entered-returns t c = grind (arith, common_steps) steps 2000000
