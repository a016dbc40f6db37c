-- Which chart a draft is once its names are looked up. A variable is named by its place among the declarations, and the
-- target of a transition by its place among the states of the region.
use Rattle.std.specs.Prelude.{ℕ, List, map, option_map}
use Rattle.sc_text.specs.Flaws.{variable_names}
use Rattle.sc_text.specs.Resolved.{number_of, expression_of, variables_of}
use Rattle.core_charts.specs.declared.region.Effect.{Effect}
use Rattle.core_charts.specs.declared.region.Transition.{Transition}
use Rattle.core_charts.specs.declared.region.Region.{Region}
use Rattle.core_charts.specs.declared.region.Region.TheViews.{roll-Region, roll-State}
use Rattle.core_charts.specs.declared.region.State.{State}
use Rattle.core_charts.specs.Chart.{Chart}
use Rattle.chart_reader.specs.declared.text_drafts.draft.DraftEffect.{DraftEffect}
use Rattle.chart_reader.specs.declared.text_drafts.draft.DraftTransition.{DraftTransition}
use Rattle.chart_reader.specs.declared.text_drafts.draft.DraftRegion.{DraftRegion}
use Rattle.chart_reader.specs.declared.text_drafts.draft.DraftRegion.TheOpen.{DraftRegion-F, DraftState-F}
use Rattle.chart_reader.specs.declared.text_drafts.draft.DraftRegion.TheFolds.{fold-DraftRegion, fold-DraftState}
use Rattle.chart_reader.specs.declared.text_drafts.draft.DraftState.{DraftState}
use Rattle.chart_reader.specs.declared.text_drafts.draft.DraftChart.{DraftChart}

-- ---- transitions, over variables of these names

abbrev pub effect_of : (variables : List (List ℕ)) → DraftEffect → Effect
effect_of variables e =
    record { variable = number_of variables e.variable.name; value = expression_of variables e.value.operations }

-- of a state of a region, whose states have these names
abbrev pub transition_of : (variables states : List (List ℕ)) → DraftTransition → Transition
transition_of variables states t =
    record {
      kind = t.kind;
      immediate = t.immediate;
      trigger = option_map (λ e. expression_of variables e.operations) t.trigger;
      effects = map (effect_of variables) t.effects;
      target = number_of states t.target.name;
    }

-- ---- states and regions

-- a state with all that is in it: its name, and what it is in a region whose states have these names
pub record StatePiece : Type 0 where
  pub name : List ℕ
  pub among : (states : List (List ℕ)) → State

abbrev pub state_piece : (variables : List (List ℕ)) → DraftState-F Region StatePiece → StatePiece
state_piece variables s =
    record {
      name = s.named.name;
      among = λ states.
          roll-State
          (record {
            name = s.named.name;
            is_initial = s.is_initial;
            is_final = s.is_final;
            regions = s.regions;
            transitions = map (transition_of variables states) s.transitions;
          });
    }

-- a region of these states
abbrev pub region_over : (variables : List (List ℕ)) → DraftRegion-F Region StatePiece → Region
region_over variables r =
    roll-Region (record { name = r.named.name; states = map (λ s. s.among (map (λ p. p.name) r.states)) r.states })

abbrev pub region_of : (variables : List (List ℕ)) → DraftRegion → Region
region_of variables = fold-DraftRegion Region StatePiece (region_over variables) (state_piece variables)

abbrev pub piece_of_state : (variables : List (List ℕ)) → DraftState → StatePiece
piece_of_state variables = fold-DraftState Region StatePiece (region_over variables) (state_piece variables)

-- a state of a region, whose states have these names
abbrev pub state_of : (variables states : List (List ℕ)) → DraftState → State
state_of variables states s = (piece_of_state variables s).among states

abbrev pub states_of : (variables states : List (List ℕ)) → List DraftState → List State
states_of variables states all = map (state_of variables states) all

abbrev pub regions_of : (variables : List (List ℕ)) → List DraftRegion → List Region
regions_of variables regions = map (region_of variables) regions

-- the chart of a draft
abbrev pub chart_of : DraftChart → Chart
chart_of d =
    record {
      name = d.named.name;
      variables = variables_of d.variables;
      regions = regions_of (variable_names d.variables) d.regions;
    }
