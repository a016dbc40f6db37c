-- Histories. In a region of n states the target n + p is the state of place p, by history: each of its regions begins in the
-- state in which it was last. A transition by history tells that it asks for that. As a state is entered to which one leads,
-- it hands this over to its regions. Each of these keeps in which of its states it is, and begins in one more state, which
-- goes to the state that was kept, where it is asked to.
use Rattle.std.specs.Prelude.{ℕ, suc, ◌+◌, ◌-◌, nat_eq, nat_lt, not, Bool, true, false, Option, Some, None, List, [], ◌∷◌, ◌++◌, map, length}
use Rattle.std.specs.Prelude.{codes, if◌then◌else◌}
use Rattle.std.specs.List.{list_any}
use Rattle.sc_values.specs.declared.value.Value.TheVariants as value
use Rattle.sc_values.specs.declared.value.Kind.TheVariants as of_kind
use Rattle.sc_values.specs.declared.operator.BinaryOperator.TheVariants as operator
use Rattle.sc_values.specs.declared.expression.Expr.{Expr}
use Rattle.sc_values.specs.declared.expression.Expr.TheVariants as expr
use Rattle.sc_text.specs.MadeNames.{numbered}
use Rattle.core_charts.specs.declared.region.Effect.{Effect}
use Rattle.core_charts.specs.declared.region.Transition.{Transition}
use Rattle.chart_reduction.specs.declared.entries.recalls.Kept.{Kept}
use Rattle.chart_reduction.specs.declared.entries.recalls.Kept.TheVariants as kept
use Rattle.chart_reduction.specs.declared.entries.histories.Past.{Past}
use Rattle.chart_reduction.specs.declared.entries.histories.EnclosingRegion.{EnclosingRegion}
use Rattle.extended_charts.specs.declared.extended.Declared.{Declared}
use Rattle.extended_charts.specs.declared.extended.ExtendedChart.{ExtendedChart}
use Rattle.extended_charts.specs.declared.extended.ExtendedRegion.{ExtendedRegion}
use Rattle.extended_charts.specs.declared.extended.ExtendedState.{ExtendedState}
use Rattle.extended_charts.specs.declared.extended.ExtendedRegion.TheOpen.{ExtendedRegion-F, ExtendedState-F}
use Rattle.extended_charts.specs.declared.extended.ExtendedRegion.TheViews.{roll-ExtendedState}
use Rattle.extended_charts.specs.declared.extended.ExtendedRegion.TheFolds.{fold-ExtendedRegion, fold-ExtendedState}
use Rattle.extended_charts.specs.Making.{has_some, local, copy, always, made_state, region}
use Rattle.extended_charts.specs.Walks.{walk}
use Rattle.extended_charts.specs.Signals.{reset}
use Rattle.chart_reduction.specs.Exits.{set, is_at}

-- ---- where transitions lead by history

-- whether a transition of a region of so many states does
abbrev pub is_by_history : (count : ℕ) → Transition → Bool
is_by_history count t = not (nat_lt t.target count)

-- the places to which these lead so
abbrev pub recalled_by : (count : ℕ) → List Transition → List ℕ
recalled_by count [] = []
recalled_by count (t ∷ transitions) =
    if is_by_history count t then (t.target - count) ∷ recalled_by count transitions else recalled_by count transitions

abbrev pub is_recalled : (place : ℕ) → (recalled : List ℕ) → Bool
is_recalled place recalled = list_any (nat_eq place) recalled

-- ---- variables

-- of a region with transitions by history: whether the one that is taken is such, and whether its state was entered by one
abbrev pub asking : (recalled : List ℕ) → List Kept
asking recalled = if has_some recalled then kept.Asked ∷ kept.Entered ∷ [] else []

-- of each region of a state to which one leads: in which of its states it is. They count from 1
abbrev pub keeping : (is_recalled : Bool) → List Kept
keeping true = kept.Last ∷ []
keeping false = []

abbrev pub variable_for : (k : ℕ) → Kept → Declared
variable_for k kept.Asked = local (numbered (codes "asked__") k) of_kind.Bool None
variable_for k kept.Entered = local (numbered (codes "history__") k) of_kind.Bool None
variable_for k kept.Last = local (numbered (codes "last__") k) of_kind.Int None

-- numbered from k on
abbrev pub variables_for : (k : ℕ) → List Kept → List Declared
variables_for k [] = []
variables_for k (v ∷ kept) = variable_for k v ∷ variables_for (suc k) kept

-- ---- effects and transitions

-- the transition that is taken is by history
abbrev pub asks : (asked : ℕ) → Effect
asks asked = record { variable = asked; value = expr.Literal (value.Bool true) }

-- a state to which one leads is entered
abbrev pub entering : (asked : ℕ) → (is_recalled : Bool) → List Effect
entering asked true = copy (suc asked) asked ∷ reset asked ∷ []
entering asked false = []

-- a region that keeps where it is is in the state of this place
abbrev pub noted : Option Past → (place : ℕ) → List Effect
noted (Some past) place = set past.last (suc place) ∷ []
noted None place = []

abbrev pub led : EnclosingRegion → Transition → Transition
led at t =
    if is_by_history at.count t
    then record t { effects = t.effects ++ asks at.asked ∷ []; target = t.target - at.count }
    else t

abbrev pub was_at : Past → (place : ℕ) → Expr
was_at past place = expr.Binary operator.And (expr.Load past.history) (is_at past.last (suc place))

-- a region goes on in the state of this place, where it was there
abbrev pub resumption : Past → (place : ℕ) → Transition
resumption past place = record (always true [] place) { trigger = Some (was_at past place) }

-- ---- states and regions: which variables they need, and what is made of them, where these have the numbers from x on. A
-- region begins anew, or where it was: then it keeps where it is, in a variable before these

pub record PastRegion : Type 0 where
  pub kept : List Kept
  pub made : (own : Option Past) → (x : ℕ) → ExtendedRegion

pub record PastState : Type 0 where
  pub is_initial : Bool
  pub transitions : List Transition
  pub kept : (is_recalled : Bool) → List Kept
  pub made : EnclosingRegion → (is_recalled : Bool) → (place x : ℕ) → ExtendedState

abbrev pub kept_in : (is_recalled : Bool) → List PastRegion → List Kept
kept_in is_recalled [] = []
kept_in is_recalled (r ∷ regions) = (keeping is_recalled ++ r.kept) ++ kept_in is_recalled regions

-- the states from this place on, of a region in which transitions lead to these places by history
abbrev pub kept_among : (recalled : List ℕ) → (place : ℕ) → List PastState → List Kept
kept_among recalled place [] = []
kept_among recalled place (s ∷ states) =
    s.kept (is_recalled place recalled) ++ kept_among recalled (suc place) states

-- the places to which transitions lead by history, in a region of so many states
abbrev pub recalled_among : (count : ℕ) → List PastState → List ℕ
recalled_among count [] = []
recalled_among count (s ∷ states) = recalled_by count s.transitions ++ recalled_among count states

-- where a region keeps where it is, of a state that was entered by history where this variable is true
abbrev pub own_past : (history : Option ℕ) → (x : ℕ) → Option Past
own_past (Some h) x = Some (record { history = h; last = x })
own_past None x = None

abbrev pub past_own : (history : Option ℕ) → (x : ℕ) → ℕ
past_own (Some h) x = suc x
past_own None x = x

abbrev pub all_regions : (history : Option ℕ) → (x : ℕ) → List PastRegion → List ExtendedRegion
all_regions history x regions =
    walk (λ (r : PastRegion). past_own history (length r.kept)) (λ r y. r.made (own_past history y) (past_own history y) ∷ [])
    x regions

abbrev pub all_states : EnclosingRegion → (recalled : List ℕ) → (place x : ℕ) → List PastState → List ExtendedState
all_states at recalled place x [] = []
all_states at recalled place x (s ∷ states) =
    s.made at (is_recalled place recalled) place x
    ∷ all_states at recalled (suc place) (x + length (s.kept (is_recalled place recalled))) states

abbrev pub initial_among : (place : ℕ) → List PastState → ℕ
initial_among place [] = place
initial_among place (s ∷ states) = if s.is_initial then place else initial_among (suc place) states

-- to each state but the initial one, which comes where it was in no other
abbrev pub resumptions : Past → (place : ℕ) → List PastState → List Transition
resumptions past place [] = []
resumptions past place (s ∷ states) =
    if s.is_initial then resumptions past (suc place) states else resumption past place ∷ resumptions past (suc place) states

-- where the region begins, if not in its initial state
abbrev pub resuming : Option Past → List PastState → List ExtendedState
resuming None states = []
resuming (Some past) states =
    made_state (numbered (codes "resume__") (length states)) true []
    (resumptions past 0 states ++ always true [] (initial_among 0 states) ∷ []) ∷ []

-- with transitions by history to these places
abbrev pub made_region : (own : Option Past) → (recalled : List ℕ) → (x : ℕ) → List PastState → List ExtendedState
made_region own recalled x states =
    all_states (record { count = length states; asked = x; own = own }) recalled 0 (x + length (asking recalled)) states
    ++ resuming own states

abbrev pub begins : Option Past → (is_initial : Bool) → Bool
begins None is_initial = is_initial
begins (Some past) is_initial = false

abbrev pub history_of : (asked : ℕ) → (is_recalled : Bool) → Option ℕ
history_of asked true = Some (suc asked)
history_of asked false = None

abbrev pub region_step : ExtendedRegion-F PastRegion PastState → PastRegion
region_step r =
    record {
      kept =
          asking (recalled_among (length r.states) r.states) ++
          kept_among (recalled_among (length r.states) r.states) 0 r.states;
      made = λ own x. region r.name (made_region own (recalled_among (length r.states) r.states) x r.states);
    }

abbrev pub state_step : ExtendedState-F PastRegion PastState → PastState
state_step s =
    record {
      is_initial = s.is_initial;
      transitions = s.transitions;
      kept = λ is_recalled. kept_in is_recalled s.regions;
      made = λ at is_recalled place x. roll-ExtendedState (record {
        name = s.name;
        is_own = s.is_own;
        is_initial = begins at.own s.is_initial;
        is_final = s.is_final;
        entry = (noted at.own place ++ entering at.asked is_recalled) ++ s.entry;
        exit = s.exit;
        during = s.during;
        regions = all_regions (history_of at.asked is_recalled) x s.regions;
        transitions = map (led at) s.transitions;
      });
    }

abbrev pub past_region : ExtendedRegion → PastRegion
past_region = fold-ExtendedRegion PastRegion PastState region_step state_step

abbrev pub past_state : ExtendedState → PastState
past_state = fold-ExtendedState PastRegion PastState region_step state_step

-- ---- charts

-- where these variables are needed
abbrev pub recalling : List Kept → ExtendedChart → ExtendedChart
recalling kept c =
    record c {
      variables = c.variables ++ variables_for 1 kept;
      regions = all_regions None (length c.variables) (map past_region c.regions);
    }

-- the chart in which no transition leads by history
abbrev pub with_histories : ExtendedChart → ExtendedChart
with_histories c =
    if has_some (kept_in false (map past_region c.regions)) then recalling (kept_in false (map past_region c.regions)) c else c
