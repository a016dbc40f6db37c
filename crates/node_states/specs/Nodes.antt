-- For each node of the graph of a core chart's lowering the state at which a thread rests there: at the depth of its
-- pause, at the join of its fork, or at the depth of the pause behind a fork without termination. Other nodes have none.
-- The nodes are told in their order, sentence by sentence of the lowering; states are numbered in the order of the text.
use Rattle.std.specs.Prelude.{ℕ, suc, ◌+◌, Bool, true, false, Option, Some, None, List, [], ◌∷◌, ◌++◌, map, if◌then◌else◌}
use Rattle.sc_values.specs.declared.expression.Expr.{Expr}
use Rattle.core_charts.specs.declared.region.Transition.{Transition}
use Rattle.core_charts.specs.declared.region.Region.{Region}
use Rattle.core_charts.specs.declared.region.Region.TheOpen.{Region-F, State-F}
use Rattle.core_charts.specs.declared.region.Region.TheFolds.{fold-Region, fold-State}
use Rattle.core_charts.specs.declared.region.State.{State}
use Rattle.core_charts.specs.Chart.{Chart}
use Rattle.core_charts.specs.Tests.{at_once, terminations}
use Rattle.chart_lowering.specs.Lowering.{leaves_surely, is_wanted}

-- of some nodes the states
abbrev pub Nodes : Type 0
Nodes = List (Option ℕ)

-- a region with all that is in it: how many states it has, and its nodes, where its first state has this number
pub record RegionPiece : Type 0 where
  pub states : ℕ
  pub nodes : (number : ℕ) → Nodes

-- a state with all that is in it: its nodes in its region's thread, and those of the threads that it forks
pub record StatePiece : Type 0 where
  pub is_initial : Bool
  pub states : ℕ
  pub own : (number : ℕ) → Nodes
  pub below : (number : ℕ) → Nodes

-- ---- transitions: nobody rests there

-- an assignment has one node
abbrev pub effects : Transition → Nodes
effects t = map (λ _. None) t.effects

-- a test has one, and what follows it is reached where it does not hold; without a trigger nothing follows
abbrev pub tested : Option Expr → Nodes → Nodes → Nodes
tested (Some trigger) does rest = None ∷ does ++ rest
tested None does rest = does

abbrev pub tests : List Transition → Nodes
tests [] = []
tests (t ∷ others) = tested t.trigger (effects t) (tests others)

-- ---- states

-- where a thread begins to rest in this state, and where it does: surface and depth of a pause, fork and join
abbrev pub rests : ℕ → Nodes
rests n = None ∷ Some n ∷ []

-- a simple state: its immediate transitions, and its depth where its surface is not surely left
abbrev pub depth : Bool → List Transition → ℕ → Nodes
depth true all n = []
depth false all n = rests n ++ tests all

abbrev pub simple : List Transition → ℕ → Nodes
simple all n = tests (at_once all) ++ depth (leaves_surely (at_once all)) all n

-- behind the fork: the effects of the termination; without one a pause
abbrev pub behind : List Transition → ℕ → Nodes
behind [] n = rests n
behind (join ∷ others) n = effects join

abbrev pub superstate : List Transition → ℕ → Nodes
superstate all n = rests n ++ behind (terminations all) n

-- a state, by whether it is final and what its regions and transitions are
abbrev pub own_of : Bool → List RegionPiece → List Transition → ℕ → Nodes
own_of true regions all n = []
own_of false [] all n = simple all n
own_of false (r ∷ regions) all n = superstate all n

abbrev pub states_in : List RegionPiece → ℕ
states_in [] = 0
states_in (r ∷ regions) = r.states + states_in regions

-- regions side by side
abbrev pub beside : List RegionPiece → ℕ → Nodes
beside [] n = []
beside (r ∷ regions) n = r.nodes n ++ beside regions (n + r.states)

abbrev pub below_of : Bool → List RegionPiece → ℕ → Nodes
below_of true regions n = []
below_of false regions n = beside regions (suc n)

abbrev pub state_piece : State-F RegionPiece StatePiece → StatePiece
state_piece s =
    record {
      is_initial = s.is_initial;
      states = suc (states_in s.regions);
      own = own_of s.is_final s.regions s.transitions;
      below = below_of s.is_final s.regions;
    }

-- ---- regions

abbrev pub states_among : List StatePiece → ℕ
states_among [] = 0
states_among (s ∷ states) = s.states + states_among states

-- the nodes in the region's thread of those states that are wanted: the initial ones, or the others
abbrev pub own_among : Bool → List StatePiece → ℕ → Nodes
own_among are_initial [] n = []
own_among are_initial (s ∷ states) n =
    (if is_wanted are_initial s.is_initial then s.own n else []) ++ own_among are_initial states (n + s.states)

-- the nodes of the threads that they fork
abbrev pub below_among : Bool → List StatePiece → ℕ → Nodes
below_among are_initial [] n = []
below_among are_initial (s ∷ states) n =
    (if is_wanted are_initial s.is_initial then s.below n else []) ++ below_among are_initial states (n + s.states)

-- a thread: its initial state, its other states in order, and its end
abbrev pub thread : List StatePiece → ℕ → Nodes
thread states n = own_among true states n ++ own_among false states n ++ None ∷ []

abbrev pub forked : List StatePiece → ℕ → Nodes
forked states n = below_among true states n ++ below_among false states n

-- the threads below it stand behind it
abbrev pub region_over : List StatePiece → ℕ → Nodes
region_over states n = thread states n ++ forked states n

abbrev pub region_piece : Region-F RegionPiece StatePiece → RegionPiece
region_piece r = record { states = states_among r.states; nodes = region_over r.states }

abbrev pub piece_of_region : Region → RegionPiece
piece_of_region = fold-Region RegionPiece StatePiece region_piece state_piece

abbrev pub piece_of_state : State → StatePiece
piece_of_state = fold-State RegionPiece StatePiece region_piece state_piece

-- ---- charts

-- fork, join and end of the chart's own thread, and the threads of its regions
abbrev pub root : List RegionPiece → Nodes
root regions = None ∷ None ∷ None ∷ beside regions 0

abbrev pub state_of_node : Chart → Nodes
state_of_node c = root (map piece_of_region c.regions)

-- how many states it has
abbrev pub state_count : Chart → ℕ
state_count c = states_in (map piece_of_region c.regions)
