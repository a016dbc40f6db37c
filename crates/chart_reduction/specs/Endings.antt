-- During actions of superstates that are left by `join`. They end in the tick in which all that is inside has ended. So the
-- regions of such a superstate go one level deeper: it gets one region, whose initial state has them and is left by the
-- termination, which tells by a variable that it was taken. One more region makes the during actions, and ends behind those
-- of the tick in which that variable is true. The termination of the superstate itself then needs no trigger.
use Rattle.std.specs.Prelude.{ℕ, zero, suc, ◌+◌, ◌==◌, Bool, true, false, ◌&&◌, ◌||◌, Option, Some, None, List, [], ◌∷◌, ◌++◌, map, length, codes}
use Rattle.std.specs.Prelude.{sum_by, if◌then◌else◌}
use Rattle.std.specs.List.{list_any}
use Rattle.sc_values.specs.declared.value.Value.TheVariants as value
use Rattle.sc_values.specs.declared.value.Kind.TheVariants as of_kind
use Rattle.sc_values.specs.declared.expression.Expr.{Expr}
use Rattle.sc_values.specs.declared.expression.Expr.TheVariants as expr
use Rattle.core_charts.specs.Tests.{is_join}
use Rattle.core_charts.specs.declared.region.Effect.{Effect}
use Rattle.core_charts.specs.declared.region.Transition.{Transition}
use Rattle.core_charts.specs.declared.region.TransitionKind.TheVariants as kind
use Rattle.extended_charts.specs.declared.extended.Declared.{Declared}
use Rattle.extended_charts.specs.declared.extended.During.{During}
use Rattle.extended_charts.specs.declared.extended.ExtendedChart.{ExtendedChart}
use Rattle.extended_charts.specs.declared.extended.ExtendedRegion.{ExtendedRegion}
use Rattle.extended_charts.specs.declared.extended.ExtendedState.{ExtendedState}
use Rattle.extended_charts.specs.declared.extended.ExtendedRegion.TheOpen.{ExtendedRegion-F, ExtendedState-F}
use Rattle.extended_charts.specs.declared.extended.ExtendedRegion.TheViews.{roll-ExtendedState}
use Rattle.extended_charts.specs.declared.extended.ExtendedRegion.TheFolds.{fold-ExtendedRegion, fold-ExtendedState}
use Rattle.sc_text.specs.MadeNames.{numbered}
use Rattle.extended_charts.specs.Making.{has_some, one, local, always, made_state, passing, region}
use Rattle.extended_charts.specs.Walks.{walk}
use Rattle.extended_charts.specs.Signals.{reset}
use Rattle.extended_charts.specs.Holds.{condition, untested, ended}
use Rattle.extended_charts.specs.Durings.{steps, immediate_ones}

abbrev pub is_joined : List Transition → Bool
is_joined transitions = list_any (λ t. is_join t.kind) transitions

abbrev pub is_immediate : List Transition → Bool
is_immediate transitions = list_any (λ t. t.immediate) transitions

-- ---- which regions may end in the tick in which they are entered: those whose initial state is final, or may be left in it

abbrev pub all_true : List Bool → Bool
all_true [] = true
all_true (b ∷ bs) = b && all_true bs

abbrev pub some_true : List Bool → Bool
some_true [] = false
some_true (b ∷ bs) = b || some_true bs

abbrev pub state_at_once : ExtendedState-F Bool Bool → Bool
state_at_once s =
    s.is_initial && (s.is_final || (is_immediate s.transitions || (is_joined s.transitions && all_true s.regions)))

abbrev pub region_at_once : ExtendedRegion-F Bool Bool → Bool
region_at_once r = some_true r.states

abbrev pub ends_at_once : ExtendedRegion → Bool
ends_at_once = fold-ExtendedRegion Bool Bool region_at_once state_at_once

abbrev pub begins_so : ExtendedState → Bool
begins_so = fold-ExtendedState Bool Bool region_at_once state_at_once

abbrev pub all_at_once : List ExtendedRegion → Bool
all_at_once regions = all_true (map ends_at_once regions)

-- ---- the region that has the others

-- what is inside has ended
abbrev pub telling : (done : ℕ) → Effect
telling done = record { variable = done; value = expr.Literal (value.Bool true) }

abbrev pub body : (done : ℕ) → Option Expr → List ExtendedRegion → ExtendedState
body done trigger regions =
    made_state (codes "body__1") true regions
    (record (always false (telling done ∷ []) 1) { kind = kind.Join; trigger = trigger } ∷ [])

abbrev pub body_region : (done : ℕ) → Option Expr → List ExtendedRegion → ExtendedRegion
body_region done trigger regions = region (codes "body__1") (body done trigger regions ∷ ended ∷ [])

-- ---- the region that makes the during actions

-- the state of this place: on to the end where what is inside has ended, and else elsewhere
abbrev pub tested : (done place end other : ℕ) → ExtendedState
tested done place end other =
    made_state (numbered (codes "step__") place) (place == 0) []
    (record (always true [] end) { trigger = Some (expr.Load done) } ∷ always true [] other ∷ [])

-- what is done in the tick of the entry: the immediate ones, and the test where all that is inside may end in it
abbrev pub first_states : (done end : ℕ) → (first : List During) → (at_once : Bool) → List ExtendedState
first_states done end first true = steps 0 first ++ tested done (length first) end (suc (length first)) ∷ []
first_states done end first false = steps 0 first

-- They lead to the place `wait`, from which each later tick goes through all of them, and by the test back to it
abbrev pub ending_states : (done wait : ℕ) → (first all : List During) → (at_once : Bool) → List ExtendedState
ending_states done wait first all at_once =
    ((first_states done (suc (suc wait + length all)) first at_once ++ passing false wait [] (suc wait) ∷ []) ++ steps (suc wait) all)
    ++ tested done (suc wait + length all) (suc (suc wait + length all)) wait ∷ ended ∷ []

abbrev pub ending_region : (done : ℕ) → List During → (at_once : Bool) → ExtendedRegion
ending_region done durings at_once =
    region (codes "during__1")
    (ending_states done (length (immediate_ones durings) + one at_once) (immediate_ones durings) durings at_once)

-- ---- states and regions: how many superstates in them have such during actions, and what is made of them where variables
-- from x on tell of these that what is inside has ended

pub record EndingRegion : Type 0 where
  pub endings : ℕ
  pub made : (x : ℕ) → ExtendedRegion

pub record EndingState : Type 0 where
  pub endings : ℕ
  pub made : (x : ℕ) → ExtendedState

abbrev pub endings_in : List EndingRegion → ℕ
endings_in regions = sum_by (λ (r : EndingRegion). r.endings) regions

abbrev pub endings_among : List EndingState → ℕ
endings_among states = sum_by (λ (s : EndingState). s.endings) states

abbrev pub all_regions : (x : ℕ) → List EndingRegion → List ExtendedRegion
all_regions x regions = walk (λ (r : EndingRegion). r.endings) (λ r y. r.made y ∷ []) x regions

abbrev pub all_states : (x : ℕ) → List EndingState → List ExtendedState
all_states x states = walk (λ (s : EndingState). s.endings) (λ s y. s.made y ∷ []) x states

-- whether a state with these actions is left by a termination
abbrev pub is_ending : List During → List Transition → Bool
is_ending durings transitions = has_some durings && is_joined transitions

-- what is inside has not ended as the superstate is entered
abbrev pub beginning : (ends : Bool) → (done : ℕ) → List Effect
beginning true done = reset done ∷ []
beginning false done = []

abbrev pub left_durings : (ends : Bool) → List During → List During
left_durings true durings = []
left_durings false durings = durings

abbrev pub inside : (ends : Bool) → (done : ℕ) → List During → List Transition → List ExtendedRegion → List ExtendedRegion
inside true done durings transitions regions =
    body_region done (condition transitions) regions ∷ ending_region done durings (all_at_once regions) ∷ []
inside false done durings transitions regions = regions

abbrev pub left_transitions : (ends : Bool) → List Transition → List Transition
left_transitions true transitions = map untested transitions
left_transitions false transitions = transitions

abbrev pub state_step : ExtendedState-F EndingRegion EndingState → EndingState
state_step s =
    record {
      endings = one (is_ending s.during s.transitions) + endings_in s.regions;
      made = λ x. roll-ExtendedState (record {
        name = s.name;
        is_own = s.is_own;
        is_initial = s.is_initial;
        is_final = s.is_final;
        entry = beginning (is_ending s.during s.transitions) x ++ s.entry;
        exit = s.exit;
        during = left_durings (is_ending s.during s.transitions) s.during;
        regions =
            inside (is_ending s.during s.transitions) x s.during s.transitions
            (all_regions (x + one (is_ending s.during s.transitions)) s.regions);
        transitions = left_transitions (is_ending s.during s.transitions) s.transitions;
      });
    }

abbrev pub region_step : ExtendedRegion-F EndingRegion EndingState → EndingRegion
region_step r = record { endings = endings_among r.states; made = λ x. region r.name (all_states x r.states) }

abbrev pub ending_in_region : ExtendedRegion → EndingRegion
ending_in_region = fold-ExtendedRegion EndingRegion EndingState region_step state_step

abbrev pub ending_in_state : ExtendedState → EndingState
ending_in_state = fold-ExtendedState EndingRegion EndingState region_step state_step

-- ---- charts

-- as many variables that tell whether something has ended
abbrev pub endings_told : (count : ℕ) → List Declared
endings_told zero = []
endings_told (suc count) = endings_told count ++ local (numbered (codes "done__") (suc count)) of_kind.Bool None ∷ []

-- that has so many such superstates
abbrev pub ending : (count : ℕ) → ExtendedChart → ExtendedChart
ending count c =
    record c {
      variables = c.variables ++ endings_told count;
      regions = all_regions (length c.variables) (map ending_in_region c.regions);
    }

-- the chart in which no state with during actions is left by a termination
abbrev pub with_endings : ExtendedChart → ExtendedChart
with_endings c = if endings_in (map ending_in_region c.regions) == 0 then c else ending (endings_in (map ending_in_region c.regions)) c
