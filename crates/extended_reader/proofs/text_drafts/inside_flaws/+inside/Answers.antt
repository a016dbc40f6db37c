use Rattle.std.proofs.Common.{◌≡◌, ◌∙◌, Some, refl, sym, slice_get, rules}
use Rattle.std.proofs.lemmas.Option.{slice_get_read}
use Rattle.extended_reader.specs.Flaws.{region_inside_flaws, state_inside_flaws}
use Rattle.extended_reader.proofs.Told.{part_told, parts_over, state_told}
use Rattle.extended_reader.proofs.text_drafts.inside_flaws.+inside.Goals as goal

pub regions_inside_flaws-loop-region-preserved : goal.regions_inside_flaws-loop-region-preserved
regions_inside_flaws-loop-region-preserved t c =
    let part = c.region-item.result in
    let is : slice_get c.args.regions.now c.loop-region.region-index ≡ Some part = slice_get_read _ _ _ _ refl c.loop-region-test.true c.region-item.is in
    part_told (region_inside_flaws c.args.signals.now.variables.now) c.args.regions.now c.loop-region.region-index part _ _
    is c.in_ok-region_inside_flaws.ensures
    ∙ c.loop-region.invariant

pub regions_inside_flaws-returns : goal.regions_inside_flaws-returns
regions_inside_flaws-returns t c =
    sym (parts_over (region_inside_flaws c.args.signals.now.variables.now) c.args.regions.now c.loop-region.region-index _ c.loop-region-test.false)
    ∙ c.loop-region.invariant

pub states_inside_flaws-loop-state-preserved : goal.states_inside_flaws-loop-state-preserved
states_inside_flaws-loop-state-preserved t c =
    let part = c.state-item.result in
    let is : slice_get c.args.states.now c.loop-state.state-index ≡ Some part = slice_get_read _ _ _ _ refl c.loop-state-test.true c.state-item.is in
    part_told (state_inside_flaws c.args.signals.now.variables.now) c.args.states.now c.loop-state.state-index part _ _ is c.in_ok-state_inside_flaws.ensures
    ∙ c.loop-state.invariant

pub states_inside_flaws-returns : goal.states_inside_flaws-returns
states_inside_flaws-returns t c =
    sym (parts_over (state_inside_flaws c.args.signals.now.variables.now) c.args.states.now c.loop-state.state-index _ c.loop-state-test.false)
    ∙ c.loop-state.invariant

pub state_inside_flaws-returns : goal.state_inside_flaws-returns
state_inside_flaws-returns t c = search (rules, state_told)
