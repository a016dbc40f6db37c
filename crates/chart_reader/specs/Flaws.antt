-- What is wrong with a draft: the list of all its flaws, each with its place. A region, a state and an effect stand at
-- their names, a transition at its word.
use Rattle.std.specs.Prelude.{ℕ, zero, suc, ◌+◌, nat_eq, Bool, true, false, not, ◌&&◌, ◌||◌, Option, Some, None, List, [], ◌∷◌, ◌++◌, map, count_by}
use Rattle.sc_values.specs.declared.value.Kind.TheVariants as kind
use Rattle.sc_text.specs.declared.read_fault.FaultKind.TheVariants as broken
use Rattle.sc_text.specs.declared.drafts.flaw.Flaw.{Flaw}
use Rattle.core_charts.specs.Rules.{depth_limit, effect_text_limit, fits_state, region_text_limit, state_text_limit, transition_text_limit}
use Rattle.core_charts.specs.Tests.{is_join}
use Rattle.sc_text.specs.declared.drafts.parts.TextExpression.{TextExpression}
use Rattle.sc_text.specs.declared.drafts.parts.Declaration.{Declaration}
use Rattle.chart_reader.specs.declared.text_drafts.draft.DraftEffect.{DraftEffect}
use Rattle.chart_reader.specs.declared.text_drafts.draft.DraftTransition.{DraftTransition}
use Rattle.chart_reader.specs.declared.text_drafts.draft.DraftRegion.{DraftRegion}
use Rattle.chart_reader.specs.declared.text_drafts.draft.DraftRegion.TheViews.{out-DraftRegion, out-DraftState}
use Rattle.chart_reader.specs.declared.text_drafts.draft.DraftState.{DraftState}
use Rattle.chart_reader.specs.declared.text_drafts.draft.DraftChart.{DraftChart}
use Rattle.sc_text.specs.Flaws.{assigned_flaws, flaw_if, is_full, is_among, variable_names, variable_named, expression_flaws, is_repeated, variable_flaws}

-- ---- transitions

-- the effects of a transition behind so many others
abbrev pub effect_flaws : List Declaration → ℕ → List DraftEffect → List Flaw
effect_flaws variables before [] = []
effect_flaws variables before (e ∷ more) =
    flaw_if (is_full effect_text_limit before) broken.Limit e.variable.at
    ++ (assigned_flaws variables (variable_named variables e.variable.name) e.variable e.value ++ effect_flaws variables (before + 1) more)

abbrev pub trigger_flaws : List Declaration → Option TextExpression → List Flaw
trigger_flaws variables None = []
trigger_flaws variables (Some e) = expression_flaws variables (Some kind.Bool) e

-- a transition of a state, simple or not, of a region with these states; behind a termination, or not
abbrev pub kind_flaws : (is_superstate is_behind_join : Bool) → DraftTransition → List Flaw
kind_flaws is_superstate is_behind_join t =
    flaw_if (not (fits_state is_superstate t.kind) || (is_join t.kind && is_behind_join)) broken.Rule t.at

-- the transitions of such a state behind so many others, of which one is a termination, or none
abbrev pub transition_flaws : List Declaration → (states : List (List ℕ)) → (is_superstate is_behind_join : Bool) → ℕ → List DraftTransition → List Flaw
transition_flaws variables states is_superstate is_behind_join before [] = []
transition_flaws variables states is_superstate is_behind_join before (t ∷ more) =
    flaw_if (is_full transition_text_limit before) broken.Limit t.at
    ++ (kind_flaws is_superstate is_behind_join t
    ++ (trigger_flaws variables t.trigger
    ++ (effect_flaws variables 0 t.effects
    ++ (flaw_if (not (is_among states t.target.name)) broken.Unknown t.target.at
    ++ transition_flaws variables states is_superstate (is_behind_join || is_join t.kind) (before + 1) more))))

-- ---- states and regions

abbrev pub is_filled : {A : Type 0} → List A → Bool
is_filled [] = false
is_filled (x ∷ xs) = true

abbrev pub state_names : List DraftState → List (List ℕ)
state_names states = map (λ s. (out-DraftState s).named.name) states

abbrev pub region_names : List DraftRegion → List (List ℕ)
region_names regions = map (λ r. (out-DraftRegion r).named.name) regions

-- a final state has neither regions nor transitions
abbrev pub final_flaws : DraftState → List Flaw
final_flaws s =
    flaw_if ((out-DraftState s).is_final && (is_filled (out-DraftState s).regions || is_filled (out-DraftState s).transitions)) broken.Rule
    (out-DraftState s).named.at

-- the states of a region from this place on, whose own regions have these flaws; `names` are those of all its states
abbrev pub state_flaws : List Declaration → (List DraftRegion → List Flaw) → (names : List (List ℕ)) → (at : ℕ) → List DraftState → List Flaw
state_flaws variables inside names at [] = []
state_flaws variables inside names at (s ∷ more) =
    flaw_if (is_repeated names at (out-DraftState s).named.name) broken.Repeated (out-DraftState s).named.at
    ++ (flaw_if (is_full state_text_limit at) broken.Limit (out-DraftState s).named.at
    ++ (final_flaws s
    ++ (transition_flaws variables names (is_filled (out-DraftState s).regions) false 0 (out-DraftState s).transitions
    ++ (inside (out-DraftState s).regions ++ state_flaws variables inside names (at + 1) more))))

-- a region has exactly one initial state
abbrev pub initial_flaws : DraftRegion → List Flaw
initial_flaws r =
    flaw_if (not (nat_eq (count_by (λ s. (out-DraftState s).is_initial) (out-DraftRegion r).states) 1)) broken.Rule (out-DraftRegion r).named.at

-- the regions of one superstate from this place on, of whose states the own regions have these flaws
abbrev pub region_flaws : List Declaration → (List DraftRegion → List Flaw) → (names : List (List ℕ)) → (at : ℕ) → List DraftRegion → List Flaw
region_flaws variables inside names at [] = []
region_flaws variables inside names at (r ∷ more) =
    flaw_if (is_repeated names at (out-DraftRegion r).named.name) broken.Repeated (out-DraftRegion r).named.at
    ++ (flaw_if (is_full region_text_limit at) broken.Limit (out-DraftRegion r).named.at
    ++ (initial_flaws r
    ++ (state_flaws variables inside (state_names (out-DraftRegion r).states) 0 (out-DraftRegion r).states
    ++ region_flaws variables inside names (at + 1) more)))

-- regions that nest so many levels deep at most. Deeper ones are flaws too, but the grammar has none
abbrev pub nested_flaws : List Declaration → ℕ → List DraftRegion → List Flaw
nested_flaws variables zero [] = []
nested_flaws variables zero (r ∷ more) = flaw_if true broken.Limit (out-DraftRegion r).named.at
nested_flaws variables (suc levels) regions =
    region_flaws variables (nested_flaws variables levels) (region_names regions) 0 regions

abbrev pub chart_flaws : DraftChart → List Flaw
chart_flaws d = variable_flaws (variable_names d.variables) 0 0 d.variables ++ nested_flaws d.variables depth_limit d.regions
