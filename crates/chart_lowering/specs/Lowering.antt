-- The lowering of core charts to SCL, sentence by sentence. Labels are numbered from 1 in the order in which they stand
-- in the whole text.
use Rattle.std.specs.Prelude.{ℕ, suc, ◌+◌, Bool, true, false, not, Option, Some, None, List, [], ◌∷◌, ◌++◌, map, slice_get, unwrap_or, if◌then◌else◌, codes}
use Rattle.std.specs.Prelude.{decimal}
use Rattle.sc_values.specs.declared.expression.Expr.{Expr}
use Rattle.scl.specs.declared.statement.Statement.{Statement}
use Rattle.scl.specs.declared.statement.Statement.TheVariants as statement
use Rattle.core_charts.specs.declared.region.Effect.{Effect}
use Rattle.core_charts.specs.declared.region.Transition.{Transition}
use Rattle.core_charts.specs.declared.region.Region.{Region}
use Rattle.core_charts.specs.declared.region.Region.TheOpen.{Region-F, State-F}
use Rattle.core_charts.specs.declared.region.Region.TheFolds.{fold-Region, fold-State}
use Rattle.core_charts.specs.declared.region.State.{State}
use Rattle.core_charts.specs.Chart.{Chart}
use Rattle.core_charts.specs.Tests.{at_once, terminations}
use Rattle.chart_lowering.specs.declared.targets.Targets.{Targets}

-- `_L1`, `_L2`, ..
abbrev pub label_name : ℕ → List ℕ
label_name n = codes "_L" ++ decimal n

abbrev pub label : ℕ → Statement
label n = statement.Label (label_name n)

abbrev pub goto : ℕ → Statement
goto n = statement.Goto (label_name n)

-- ---- transitions

-- the label of the state at this place; where there is none, that of the region's end
abbrev pub label_at : Targets → ℕ → List ℕ
label_at at place = unwrap_or (slice_get at.states place) at.end

abbrev pub assignment : Effect → Statement
assignment e = statement.Assign e.variable e.value

-- what a transition does where it is taken: its effects, and the goto to its target
abbrev pub taken : Targets → Transition → List Statement
taken at t = map assignment t.effects ++ statement.Goto (label_at at t.target) ∷ []

-- a trigger, what is done where it holds, and what follows: without a trigger nothing does
abbrev pub tested : Option Expr → List Statement → List Statement → List Statement
tested (Some trigger) does rest = statement.If trigger does [] ∷ rest
tested None does rest = does

-- transitions in their order, and what follows them
abbrev pub transitions : Targets → List Transition → List Statement → List Statement
transitions at [] rest = rest
transitions at (t ∷ others) rest = tested t.trigger (taken at t) (transitions at others rest)

abbrev pub is_sure : Option Expr → Bool
is_sure (Some trigger) = false
is_sure None = true

-- whether one of them has no trigger
abbrev pub leaves_surely : List Transition → Bool
leaves_surely [] = false
leaves_surely (t ∷ others) = if is_sure t.trigger then true else leaves_surely others

-- ---- regions and states, with all that is in them

-- of a region: how many labels it has, and its body, where the first of them has number n
pub record RegionPiece : Type 0 where
  pub labels : ℕ
  pub body : (n : ℕ) → List Statement

-- of a state: whether it is initial, how many labels it has, and its text, where the first of them has number n
pub record StatePiece : Type 0 where
  pub is_initial : Bool
  pub labels : ℕ
  pub text : Targets → (n : ℕ) → List Statement

abbrev pub labels_in : List RegionPiece → ℕ
labels_in [] = 0
labels_in (r ∷ regions) = r.labels + labels_in regions

-- the branches of a superstate's fork, one for each region
abbrev pub branches : List RegionPiece → ℕ → List (List Statement)
branches [] n = []
branches (r ∷ regions) n = r.body n ∷ branches regions (n + r.labels)

-- a second label, the pause, all transitions, and the goto to the second label
abbrev pub depth : Targets → List Transition → ℕ → List Statement
depth at all n = label n ∷ statement.Pause ∷ transitions at all (goto n ∷ [])

-- a simple state: its label, its immediate transitions, and its depth
abbrev pub simple : Targets → List Transition → ℕ → List Statement
simple at all n = label n ∷ transitions at (at_once all) (depth at all (suc n))

-- a final state: its label, and the goto to the region's end
abbrev pub final : Targets → ℕ → List Statement
final at n = label n ∷ statement.Goto at.end ∷ []

-- behind the fork: the termination; without one the superstate is never left
abbrev pub behind : Targets → List Transition → ℕ → List Statement
behind at [] n = depth at [] n
behind at (join ∷ others) n = taken at join

-- a superstate: its label, the fork, and what is behind it
abbrev pub superstate : Targets → List RegionPiece → List Transition → ℕ → List Statement
superstate at regions all n =
    label n ∷ statement.Fork (branches regions (suc n)) ∷ behind at (terminations all) (suc n + labels_in regions)

-- a state, by whether it is final and what its regions and transitions are
abbrev pub text_of : Bool → List RegionPiece → List Transition → Targets → ℕ → List Statement
text_of true regions all at n = final at n
text_of false [] all at n = simple at all n
text_of false (r ∷ regions) all at n = superstate at (r ∷ regions) all n

-- the labels of a simple state: the second one stands only where the surface is not surely left
abbrev pub labels_of_simple : List Transition → ℕ
labels_of_simple all = if leaves_surely (at_once all) then 1 else 2

-- the labels behind a superstate's fork
abbrev pub labels_behind : List Transition → ℕ
labels_behind [] = 1
labels_behind (join ∷ others) = 0

abbrev pub labels_of : Bool → List RegionPiece → List Transition → ℕ
labels_of true regions all = 1
labels_of false [] all = labels_of_simple all
labels_of false (r ∷ regions) all = suc (labels_in (r ∷ regions) + labels_behind (terminations all))

abbrev pub state_piece : State-F RegionPiece StatePiece → StatePiece
state_piece s =
    record {
      is_initial = s.is_initial;
      labels = labels_of s.is_final s.regions s.transitions;
      text = text_of s.is_final s.regions s.transitions;
    }

abbrev pub labels_in_states : List StatePiece → ℕ
labels_in_states [] = 0
labels_in_states (s ∷ states) = s.labels + labels_in_states states

abbrev pub labels_in_initial : List StatePiece → ℕ
labels_in_initial [] = 0
labels_in_initial (s ∷ states) = (if s.is_initial then s.labels else 0) + labels_in_initial states

-- the number of each state's label: that of the initial state is `first`, those of the others go on from `next`
abbrev pub numbers : List StatePiece → (first next : ℕ) → List ℕ
numbers [] first next = []
numbers (s ∷ states) first next =
    if s.is_initial then first ∷ numbers states first next else next ∷ numbers states first (next + s.labels)

-- whether a state is one of those that are wanted: the initial ones, or the others
abbrev pub is_wanted : Bool → Bool → Bool
is_wanted true is_initial = is_initial
is_wanted false is_initial = not is_initial

-- the texts of those states that are wanted, one after the other
abbrev pub texts : Bool → Targets → List StatePiece → List ℕ → List Statement
texts are_initial at (s ∷ states) (n ∷ ns) =
    (if is_wanted are_initial s.is_initial then s.text at n else []) ++ texts are_initial at states ns
texts are_initial at states ns = []

-- a region's body: its initial state, its other states in order, and its end label
abbrev pub body : Targets → List StatePiece → List ℕ → ℕ → List Statement
body at states ns end = texts true at states ns ++ texts false at states ns ++ label end ∷ []

-- the labels of states with these numbers, and of the end behind them
abbrev pub targets : List ℕ → ℕ → Targets
targets ns end = record { states = map label_name ns; end = label_name end }

abbrev pub body_from : List StatePiece → List ℕ → ℕ → List Statement
body_from states ns end = body (targets ns end) states ns end

abbrev pub region_piece : Region-F RegionPiece StatePiece → RegionPiece
region_piece r =
    record {
      labels = suc (labels_in_states r.states);
      body = λ n. body_from r.states (numbers r.states n (n + labels_in_initial r.states)) (n + labels_in_states r.states);
    }

abbrev pub piece_of_region : Region → RegionPiece
piece_of_region = fold-Region RegionPiece StatePiece region_piece state_piece

abbrev pub piece_of_state : State → StatePiece
piece_of_state = fold-State RegionPiece StatePiece region_piece state_piece

-- the root's body: one fork with a branch for each region of the chart
abbrev pub root : List RegionPiece → List Statement
root regions = statement.Fork (branches regions 1) ∷ []

abbrev pub lowered : Chart → List Statement
lowered c = root (map piece_of_region c.regions)
