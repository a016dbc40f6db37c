use Rattle.std.proofs.lemmas.Grind.{elements}
use Rattle.std.proofs.Common.{◌≡◌, ◌∙◌, ◌-◌, Some, ap, refl, sym, slice_get, arith, rules}
use Rattle.std.proofs.lemmas.Option.{slice_get_read}
use Rattle.sc_text.specs.Told.{told_behind}
use Rattle.chart_reader.specs.Flaws.{state_names, state_flaws, region_names, region_flaws, nested_flaws}
use Rattle.chart_reader.proofs.Flawed.{region_noted, state_noted, nested_is, regions_over, states_over}
use Rattle.chart_reader.proofs.Same.{on_ok_is}
use Rattle.chart_reader.proofs.text_drafts.region_flaws.+flaws.Goals as goal

pub region_flaws-returns : goal.region_flaws-returns
region_flaws-returns t c =
    let variables = c.args.scope.now.variables.now in
    let regions = c.args.regions.now in
    let inside = nested_flaws variables (c.args.levels - 1) in
    let some = c.if-levels-eq0.false in
    let names : c.in_ok-names.names.names ≡ region_names regions = c.in_ok-names.ensures ∙ c.in_ok-region_names.ensures in
    let same : told_behind c.args.found.now (region_flaws variables inside c.in_ok-names.names.names 0 regions)
    ≡ told_behind c.args.found.now (nested_flaws variables c.args.levels regions) =
    ap (λ ns. told_behind c.args.found.now (region_flaws variables inside ns 0 regions)) names
    ∙ ap (told_behind c.args.found.now) (sym (nested_is variables c.args.levels regions some)) in
    on_ok_is c.each_region_flaws.new.found c.each_region_flaws.result c.each_region_flaws.ensures same

pub state_flaws-returns : goal.state_flaws-returns
state_flaws-returns t c =
    let variables = c.args.scope.now.variables.now in
    let states = c.args.states.now in
    let inside = nested_flaws variables c.args.levels in
    let names : c.in_ok-names.names.names ≡ state_names states = c.in_ok-names.ensures ∙ c.in_ok-state_names.ensures in
    let same : told_behind c.args.found.now (state_flaws variables inside c.in_ok-names.names.names 0 states)
    ≡ told_behind c.args.found.now (state_flaws variables inside (state_names states) 0 states) =
    ap (λ ns. told_behind c.args.found.now (state_flaws variables inside ns 0 states)) names in
    on_ok_is c.each_state_flaws.new.found c.each_state_flaws.result c.each_state_flaws.ensures same

pub each_region_flaws-loop-at-preserved : goal.each_region_flaws-loop-at-preserved
each_region_flaws-loop-at-preserved t c =
    let region = c.index-regions-at.result in
    let is : slice_get c.args.regions.now c.loop-at.at ≡ Some region = slice_get_read _ _ _ _ refl c.loop-at-test.true c.index-regions-at.is in
    region_noted c.args.scope.now.variables.now (nested_flaws c.args.scope.now.variables.now c.args.levels)
    c.args.names.now.names c.args.regions.now c.loop-at.at region _ _ _ _ _ _ is refl
    c.in_ok-place_flaws.ensures c.in_ok-initial_flaws.ensures c.as_slice-states.ensures c.in_ok-state_flaws.ensures
    ∙ c.loop-at.invariant

pub each_state_flaws-loop-at-preserved : goal.each_state_flaws-loop-at-preserved
each_state_flaws-loop-at-preserved t c =
    let state = c.index-states-at.result in
    let is : slice_get c.args.states.now c.loop-at.at ≡ Some state = slice_get_read _ _ _ _ refl c.loop-at-test.true c.index-states-at.is in
    state_noted c.args.scope.now.variables.now (nested_flaws c.args.scope.now.variables.now c.args.levels) c.args.names.now.names c.args.states.now
    c.loop-at.at state _ _ _ _ _ _ _ is refl
    c.in_ok-place_flaws.ensures c.in_ok-final_flaws.ensures c.in_ok-own_transition_flaws.ensures c.as_slice.ensures c.in_ok-region_flaws.ensures
    ∙ c.loop-at.invariant

pub state_flaws-returns-in_err-state_names : goal.state_flaws-returns-in_err-state_names
state_flaws-returns-in_err-state_names t c = grind (arith, elements) steps 2000000

pub state_flaws-returns-in_err-names : goal.state_flaws-returns-in_err-names
state_flaws-returns-in_err-names t c = grind (arith, elements) steps 2000000

pub each_region_flaws-returns : goal.each_region_flaws-returns
each_region_flaws-returns t c = search (rules, regions_over)

pub each_state_flaws-returns : goal.each_state_flaws-returns
each_state_flaws-returns t c = search (rules, states_over)
