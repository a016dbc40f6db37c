-- Exit actions. A transition makes those of the state that it leaves before its own effects. What is active inside a
-- superstate makes its own first: each region in it notes in which of its states with exit actions it is, and a transition
-- of the superstate leads through a state for each of these regions, which makes the exit actions of that state.
use Rattle.std.specs.Prelude.{ℕ, suc, pos, ◌+◌, Bool, true, false, Option, Some, None, List, [], ◌∷◌, ◌++◌, map, sum_by, length, codes}
use Rattle.std.specs.Prelude.{if◌then◌else◌}
use Rattle.sc_values.specs.declared.value.Value.TheVariants as value
use Rattle.sc_values.specs.declared.operator.BinaryOperator.TheVariants as operator
use Rattle.sc_values.specs.declared.expression.Expr.{Expr}
use Rattle.sc_values.specs.declared.expression.Expr.TheVariants as expr
use Rattle.core_charts.specs.declared.region.Effect.{Effect}
use Rattle.core_charts.specs.declared.region.Transition.{Transition}
use Rattle.extended_charts.specs.declared.extended.ExtendedChart.{ExtendedChart}
use Rattle.extended_charts.specs.declared.extended.ExtendedRegion.{ExtendedRegion}
use Rattle.extended_charts.specs.declared.extended.ExtendedState.{ExtendedState}
use Rattle.extended_charts.specs.declared.extended.ExtendedRegion.TheOpen.{ExtendedRegion-F, ExtendedState-F}
use Rattle.extended_charts.specs.declared.extended.ExtendedRegion.TheViews.{roll-ExtendedState}
use Rattle.extended_charts.specs.declared.extended.ExtendedRegion.TheFolds.{fold-ExtendedRegion, fold-ExtendedState}
use Rattle.chart_reduction.specs.declared.entries.leaving.Leaving.{Leaving}
use Rattle.sc_text.specs.MadeNames.{numbered}
use Rattle.extended_charts.specs.Making.{has_some, always, made_state, region, integers, one}
use Rattle.extended_charts.specs.Walks.{walk}

-- ---- where a region is

abbrev pub integer : ℕ → Expr
integer number = expr.Literal (value.Int (pos number))

-- the variable becomes this number
abbrev pub set : (variable number : ℕ) → Effect
set variable number = record { variable = variable; value = integer number }

-- where the region notes it and the state has exit actions
abbrev pub noted : (own : Option ℕ) → (number : ℕ) → (exit : List Effect) → List Effect
noted (Some x) number exit = if has_some exit then set x number ∷ [] else []
noted None number exit = []

-- the state is left: it is noted no more behind its exit actions
abbrev pub parting : (own : Option ℕ) → (exit : List Effect) → List Effect
parting own exit = exit ++ noted own 0 exit

-- ---- the states behind a superstate: from this place on one for each region in it that notes where it is

abbrev pub is_at : (variable number : ℕ) → Expr
is_at variable number = expr.Binary operator.Equal (expr.Load variable) (integer number)

-- from where the region is in the state of this number
abbrev pub departure : (variable number target : ℕ) → (exit : List Effect) → Transition
departure variable number target exit =
    record (always true (exit ++ set variable 0 ∷ []) target) { trigger = Some (is_at variable number) }

-- states with these exit actions, from this number on: those of the one in which the region is are made
abbrev pub departures : (variable number target : ℕ) → List (List Effect) → List Transition
departures variable number target [] = always true [] target ∷ []
departures variable number target (exit ∷ others) =
    departure variable number target exit ∷ departures variable (suc number) target others

abbrev pub behind : (place : ℕ) → List Transition → ExtendedState
behind place transitions = made_state (numbered (codes "leave__") place) false [] transitions

-- those of one transition, the last of which makes these effects and goes to its target
abbrev pub way_out : (place : ℕ) → List Leaving → List Effect → (target : ℕ) → List ExtendedState
way_out place [] effects target = behind place (always true effects target ∷ []) ∷ []
way_out place (l ∷ leavings) effects target =
    behind place (departures l.variable 1 (suc place) l.exits) ∷ way_out (suc place) leavings effects target

-- those of all transitions of a superstate that makes these effects as it is left
abbrev pub ways_out : (place : ℕ) → List Leaving → (own : List Effect) → List Transition → List ExtendedState
ways_out place leavings own [] = []
ways_out place leavings own (t ∷ transitions) =
    way_out place leavings (own ++ t.effects) t.target ++
    ways_out (place + suc (length leavings)) leavings own transitions

-- the transitions themselves lead there
abbrev pub led_out : (place : ℕ) → List Leaving → List Transition → List Transition
led_out place leavings [] = []
led_out place leavings (t ∷ transitions) =
    record t { effects = []; target = place } ∷ led_out (place + suc (length leavings)) leavings transitions

-- where nothing inside has exit actions, they lead where they led
abbrev pub left_by : (own : List Effect) → Transition → Transition
left_by own t = record t { effects = own ++ t.effects }

abbrev pub left_transitions : (place : ℕ) → List Leaving → (own : List Effect) → List Transition → List Transition
left_transitions place leavings own transitions =
    if has_some leavings then led_out place leavings transitions else map (left_by own) transitions

abbrev pub left_behind : (place : ℕ) → List Leaving → (own : List Effect) → List Transition → List ExtendedState
left_behind place leavings own transitions =
    if has_some leavings then ways_out place leavings own transitions else []

-- what is active in a state that a reduction made is left with the author's state around it
abbrev pub left_in : (is_own : Bool) → List Leaving → List Leaving
left_in true leavings = leavings
left_in false leavings = []

-- ---- states and regions: how many regions in them note where they are, what is left of these where variables from x on
-- note it, and what is made then

-- a region may note where it is itself, where its states have exit actions
pub record LeftRegion : Type 0 where
  pub inside : ℕ
  pub exits : List (List Effect)
  pub leavings : (x : ℕ) → List Leaving
  pub made : (own : Option ℕ) → (x : ℕ) → ExtendedRegion

-- a state is of a region that notes in this variable, if at all, that it is in the state of this number; what stands behind
-- it stands from this place on
pub record LeftState : Type 0 where
  pub inside : ℕ
  pub exit : List Effect
  pub leavings : (x : ℕ) → List Leaving
  pub made : (own : Option ℕ) → (number x place : ℕ) → ExtendedState
  pub behind : (own : Option ℕ) → (x place : ℕ) → List ExtendedState

-- how many note where they are, of a region and those in it
abbrev pub notes : LeftRegion → ℕ
notes r = r.inside + one (has_some r.exits)

abbrev pub notes_in : List LeftRegion → ℕ
notes_in regions = sum_by notes regions

abbrev pub notes_among : List LeftState → ℕ
notes_among states = sum_by (λ (s : LeftState). s.inside) states

-- of the states that have some
abbrev pub exits_of : List LeftState → List (List Effect)
exits_of [] = []
exits_of (s ∷ states) = if has_some s.exit then s.exit ∷ exits_of states else exits_of states

abbrev pub leavings_in : (x : ℕ) → List LeftRegion → List Leaving
leavings_in x regions = walk notes (λ (r : LeftRegion) y. r.leavings y) x regions

abbrev pub leavings_among : (x : ℕ) → List LeftState → List Leaving
leavings_among x states = walk (λ (s : LeftState). s.inside) (λ s y. s.leavings y) x states

-- of the region itself, behind those of the regions in it
abbrev pub own_leaving : (x : ℕ) → (exits : List (List Effect)) → List Leaving
own_leaving x exits = if has_some exits then record { variable = x; exits = exits } ∷ [] else []

abbrev pub own_note : (x : ℕ) → (notes : Bool) → Option ℕ
own_note x true = Some x
own_note x false = None

-- regions of a superstate
abbrev pub all_regions : (x : ℕ) → List LeftRegion → List ExtendedRegion
all_regions x regions =
    walk notes (λ (r : LeftRegion) y. r.made (own_note (y + r.inside) (has_some r.exits)) y ∷ []) x regions

abbrev pub all_states : (own : Option ℕ) → (number x place : ℕ) → List LeftState → List ExtendedState
all_states own number x place [] = []
all_states own number x place (s ∷ states) =
    s.made own number x place ∷
    all_states own (number + one (has_some s.exit)) (x + s.inside) (place + length (s.behind own x place)) states

abbrev pub all_behind : (own : Option ℕ) → (x place : ℕ) → List LeftState → List ExtendedState
all_behind own x place [] = []
all_behind own x place (s ∷ states) =
    s.behind own x place ++ all_behind own (x + s.inside) (place + length (s.behind own x place)) states

-- the states of a region, and what stands behind them
abbrev pub with_behind : (own : Option ℕ) → (x : ℕ) → List LeftState → List ExtendedState
with_behind own x states =
    all_states own 1 x (length states) states ++ all_behind own x (length states) states

abbrev pub region_step : ExtendedRegion-F LeftRegion LeftState → LeftRegion
region_step r =
    record {
      inside = notes_among r.states;
      exits = exits_of r.states;
      leavings = λ x. leavings_among x r.states ++ own_leaving (x + notes_among r.states) (exits_of r.states);
      made = λ own x. region r.name (with_behind own x r.states);
    }

abbrev pub state_step : ExtendedState-F LeftRegion LeftState → LeftState
state_step s =
    record {
      inside = notes_in s.regions;
      exit = s.exit;
      leavings = λ x. leavings_in x s.regions;
      made = λ own number x place. roll-ExtendedState (record {
        name = s.name;
        is_own = s.is_own;
        is_initial = s.is_initial;
        is_final = s.is_final;
        entry = noted own number s.exit ++ s.entry;
        exit = [];
        during = [];
        regions = all_regions x s.regions;
        transitions = left_transitions place (left_in s.is_own (leavings_in x s.regions)) (parting own s.exit) s.transitions;
      });
      behind = λ own x place. left_behind place (left_in s.is_own (leavings_in x s.regions)) (parting own s.exit) s.transitions;
    }

abbrev pub left_region : ExtendedRegion → LeftRegion
left_region = fold-ExtendedRegion LeftRegion LeftState region_step state_step

abbrev pub left_state : ExtendedState → LeftState
left_state = fold-ExtendedState LeftRegion LeftState region_step state_step

-- ---- charts: their own regions are not left from outside, and do not note where they are

abbrev pub all_inside : List LeftRegion → ℕ
all_inside regions = sum_by (λ (r : LeftRegion). r.inside) regions

abbrev pub outer_regions : (x : ℕ) → List LeftRegion → List ExtendedRegion
outer_regions x regions = walk (λ (r : LeftRegion). r.inside) (λ r y. r.made None y ∷ []) x regions

-- the chart whose transitions make the exit actions
abbrev pub with_exits : ExtendedChart → ExtendedChart
with_exits c =
    record c {
      variables = c.variables ++ integers (codes "in__") (all_inside (map left_region c.regions));
      regions = outer_regions (length c.variables) (map left_region c.regions);
    }
