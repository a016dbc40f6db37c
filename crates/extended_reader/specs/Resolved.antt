-- Which extended chart a draft is once its names are looked up. What stands among the variables is named by its place there,
-- sorted, and the target of a transition by its place among the states of the region. Each state takes the first row of
-- actions that is left, before what is in it, and each transition the first row of what is new of it, behind what is in its
-- state; and its count is the first of those that are left.
use Rattle.std.specs.Prelude.{ℕ, ◌+◌, Bool, true, false, Option, Some, None, List, [], ◌∷◌, ◌++◌, map, length, codes, option_map, if◌then◌else◌}
use Rattle.std.specs.Option.{is_some}
use Rattle.std.specs.Str.{bytes_eq}
use Rattle.sc_values.specs.declared.operator.BinaryOperator.TheVariants as operator
use Rattle.sc_values.specs.declared.expression.Expr.{Expr}
use Rattle.sc_values.specs.declared.expression.Expr.TheVariants as expr
use Rattle.sc_text.specs.declared.drafts.parts.Named.{Named}
use Rattle.sc_text.specs.declared.drafts.parts.TextExpression.{TextExpression}
use Rattle.sc_text.specs.Resolved.{expression_of, number_of}
use Rattle.core_charts.specs.declared.region.Effect.{Effect}
use Rattle.core_charts.specs.declared.region.Transition.{Transition}
use Rattle.chart_reader.specs.declared.text_drafts.draft.DraftTransition.{DraftTransition}
use Rattle.chart_reader.specs.declared.text_drafts.draft.DraftRegion.{DraftRegion}
use Rattle.chart_reader.specs.declared.text_drafts.draft.DraftRegion.TheOpen.{DraftRegion-F, DraftState-F}
use Rattle.chart_reader.specs.declared.text_drafts.draft.DraftRegion.TheFolds.{fold-DraftRegion, fold-DraftState}
use Rattle.chart_reader.specs.declared.text_drafts.draft.DraftState.{DraftState}
use Rattle.chart_reader.specs.Resolved.{effect_of, transition_of}
use Rattle.extended_reader.specs.declared.text_drafts.draft.DraftEntry.{DraftEntry}
use Rattle.extended_reader.specs.declared.text_drafts.draft.StateActions.{StateActions}
use Rattle.extended_reader.specs.declared.text_drafts.draft.DraftCount.{DraftCount}
use Rattle.extended_reader.specs.declared.text_drafts.draft.DraftDelay.{DraftDelay}
use Rattle.extended_reader.specs.declared.text_drafts.draft.DraftWay.{DraftWay}
use Rattle.extended_reader.specs.declared.text_drafts.draft.DraftRows.{DraftRows}
use Rattle.extended_reader.specs.declared.text_drafts.draft.ExtendedDraft.{ExtendedDraft}
use Rattle.extended_charts.specs.declared.extended.During.{During}
use Rattle.extended_charts.specs.declared.extended.ExtendedChart.{ExtendedChart}
use Rattle.extended_charts.specs.declared.extended.ExtendedRegion.{ExtendedRegion}
use Rattle.extended_charts.specs.declared.extended.ExtendedState.{ExtendedState}
use Rattle.extended_charts.specs.declared.extended.ExtendedRegion.TheViews.{roll-ExtendedRegion, roll-ExtendedState}
use Rattle.extended_charts.specs.Reading.{elapsed}
use Rattle.extended_reader.specs.declared.sorts.Sort.TheVariants as sort
use Rattle.extended_reader.specs.Counts.{at_least, first_number, conditions, counted}
use Rattle.extended_reader.specs.Items.{all_of, names_of, declared_of, signal_numbers, before_of, constant_of}

-- ---- actions, over what has these names

-- the effects behind this word
abbrev pub effects_behind : (word : List ℕ) → (names : List (List ℕ)) → DraftEntry → List Effect
effects_behind word names e = if bytes_eq e.word.name word then map (effect_of names) e.effects else []

abbrev pub actions_of : (word : List ℕ) → (names : List (List ℕ)) → List DraftEntry → List Effect
actions_of word names [] = []
actions_of word names (e ∷ entries) = effects_behind word names e ++ actions_of word names entries

abbrev pub condition_of : (names : List (List ℕ)) → TextExpression → Expr
condition_of names e = expression_of names e.operations

-- what is made while the state goes on
abbrev pub during_of : (names : List (List ℕ)) → DraftEntry → During
during_of names e =
    record {
      immediate = e.immediate;
      trigger = option_map (condition_of names) e.trigger;
      effects = map (effect_of names) e.effects;
    }

abbrev pub durings_of : (names : List (List ℕ)) → List DraftEntry → List During
durings_of names [] = []
durings_of names (e ∷ entries) =
    if bytes_eq e.word.name (codes "during") then during_of names e ∷ durings_of names entries else durings_of names entries

-- ---- transitions

-- so many ticks went by since the state was entered, all or those of a count, which has this number
abbrev pub waited : (names : List (List ℕ)) → (number : ℕ) → (ticks : Expr) → Option DraftCount → Expr
waited names number ticks None = at_least elapsed ticks
waited names number ticks (Some c) = counted number (condition_of names c.condition) ticks

abbrev pub waited_by : (names : List (List ℕ)) → (number : ℕ) → DraftDelay → Expr
waited_by names number d = waited names number (condition_of names d.until) d.count

-- the trigger of a transition that waits so many ticks
abbrev pub waited_trigger : (names : List (List ℕ)) → (number : ℕ) → DraftDelay → Option TextExpression → Option Expr
waited_trigger names number d None = Some (waited_by names number d)
waited_trigger names number d (Some e) = Some (expr.Binary operator.And (waited_by names number d) (condition_of names e))

-- the trigger of one that waits for this: ticks behind a word, and the trigger of a termination behind none
abbrev pub until_trigger : (names : List (List ℕ)) → (number : ℕ) → Option Named → DraftDelay → Option TextExpression → Option Expr
until_trigger names number None d t = Some (condition_of names d.until)
until_trigger names number (Some word) d t = waited_trigger names number d t

-- the trigger of a transition that waits, or not, where its count has this number
abbrev pub trigger_of : (names : List (List ℕ)) → (number : ℕ) → Option DraftDelay → Option TextExpression → Option Expr
trigger_of names number None t = option_map (condition_of names) t
trigger_of names number (Some d) t = until_trigger names number d.word d t

abbrev pub first_delay : List DraftWay → Option DraftDelay
first_delay [] = None
first_delay (w ∷ ways) = w.delay

abbrev pub is_by_history : List DraftWay → Bool
is_by_history [] = false
is_by_history (w ∷ ways) = is_some w.history

-- the place of a state among these of a region; by its history, so much behind them
abbrev pub target_of : (states : List (List ℕ)) → (by_history : Bool) → List ℕ → ℕ
target_of states false name = number_of states name
target_of states true name = length states + number_of states name

-- of a state of a region, whose states have these names, where these rows are left: its count is the first one left
abbrev pub delayed_transition : (names states : List (List ℕ)) → (left : List DraftWay) → DraftTransition → Transition
delayed_transition names states left t =
    record (transition_of names states t) {
      trigger = trigger_of names (first_number left) (first_delay left) t.trigger;
      target = target_of states (is_by_history left) t.target.name;
    }

-- ---- rows

abbrev pub rows_of : List StateActions → List DraftWay → DraftRows
rows_of entries ways = record { entries = entries; ways = ways }

abbrev pub first_actions : List StateActions → List DraftEntry
first_actions [] = []
first_actions (own ∷ entries) = own.entries

abbrev pub behind_first : {A : Type 0} → List A → List A
behind_first [] = []
behind_first (x ∷ xs) = xs

-- the rows that are left where a state begins
abbrev pub behind_state : DraftRows → DraftRows
behind_state rows = record { entries = behind_first rows.entries; ways = rows.ways }

-- the rows that are left behind a transition
abbrev pub behind_transition : DraftRows → DraftRows
behind_transition rows = record { entries = rows.entries; ways = behind_first rows.ways }

-- ---- regions and states: what each is where these rows are left, and which ones it leaves

pub record RegionPiece : Type 0 where
  pub made : DraftRows → ExtendedRegion
  pub behind : DraftRows → DraftRows

-- a state is in a region whose states have these names
pub record StatePiece : Type 0 where
  pub name : List ℕ
  pub made : (states : List (List ℕ)) → DraftRows → ExtendedState
  pub behind : DraftRows → DraftRows

abbrev pub all_transitions : (names states : List (List ℕ)) → DraftRows → List DraftTransition → List Transition
all_transitions names states rows [] = []
all_transitions names states rows (t ∷ transitions) =
    delayed_transition names states rows.ways t ∷ all_transitions names states (behind_transition rows) transitions

abbrev pub behind_transitions : DraftRows → List DraftTransition → DraftRows
behind_transitions rows [] = rows
behind_transitions rows (t ∷ transitions) = behind_transitions (behind_transition rows) transitions

abbrev pub all_regions : DraftRows → List RegionPiece → List ExtendedRegion
all_regions rows [] = []
all_regions rows (r ∷ regions) = r.made rows ∷ all_regions (r.behind rows) regions

abbrev pub behind_regions : DraftRows → List RegionPiece → DraftRows
behind_regions rows [] = rows
behind_regions rows (r ∷ regions) = behind_regions (r.behind rows) regions

abbrev pub all_states : (states : List (List ℕ)) → DraftRows → List StatePiece → List ExtendedState
all_states names rows [] = []
all_states names rows (s ∷ states) = s.made names rows ∷ all_states names (s.behind rows) states

abbrev pub behind_states : DraftRows → List StatePiece → DraftRows
behind_states rows [] = rows
behind_states rows (s ∷ states) = behind_states (s.behind rows) states

abbrev pub state_step : (names : List (List ℕ)) → DraftState-F RegionPiece StatePiece → StatePiece
state_step names s =
    record {
      name = s.named.name;
      made = λ states rows. roll-ExtendedState (record {
        name = s.named.name;
        is_own = true;
        is_initial = s.is_initial;
        is_final = s.is_final;
        entry = actions_of (codes "entry") names (first_actions rows.entries);
        exit = actions_of (codes "exit") names (first_actions rows.entries);
        during = durings_of names (first_actions rows.entries);
        regions = all_regions (behind_state rows) s.regions;
        transitions = all_transitions names states (behind_regions (behind_state rows) s.regions) s.transitions;
      });
      behind = λ rows. behind_transitions (behind_regions (behind_state rows) s.regions) s.transitions;
    }

abbrev pub region_step : (names : List (List ℕ)) → DraftRegion-F RegionPiece StatePiece → RegionPiece
region_step names r =
    record {
      made = λ rows. roll-ExtendedRegion (record {
        name = r.named.name;
        states = all_states (map (λ p. p.name) r.states) rows r.states;
      });
      behind = λ rows. behind_states rows r.states;
    }

abbrev pub region_of : (names : List (List ℕ)) → DraftRegion → RegionPiece
region_of names = fold-DraftRegion RegionPiece StatePiece (region_step names) (state_step names)

abbrev pub state_of : (names : List (List ℕ)) → DraftState → StatePiece
state_of names = fold-DraftState RegionPiece StatePiece (region_step names) (state_step names)

-- ---- charts

-- the extended chart of a draft
abbrev pub extended_of : ExtendedDraft → ExtendedChart
extended_of d =
    record {
      name = d.core.named.name;
      variables = map declared_of (all_of sort.Variable d.items);
      signals = signal_numbers (names_of d.items) d.items;
      befores = map (before_of (names_of d.items)) (all_of sort.Before d.items);
      constants = map constant_of (all_of sort.Constant d.items);
      counts = conditions (names_of d.items) d.rows.ways;
      regions = all_regions d.rows (map (region_of (names_of d.items)) d.core.regions);
    }
