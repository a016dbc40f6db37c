-- How the rows write the chart whose text stands above them: a tree of regions and states, over the numbers of variables and
-- the places of targets.
use Rattle.std.proofs.Common.{ℕ, ◌≡◌, Bool, true, false, Option, Some, None, List, [], ◌∷◌, ap}
use Rattle.std.specs.Prelude.{slice_get, map, pos}
use Rattle.sc_values.specs.declared.value.Kind.TheVariants as of_kind
use Rattle.sc_values.specs.declared.value.Value.{Value}
use Rattle.sc_values.specs.declared.value.Value.TheVariants as value
use Rattle.sc_values.specs.declared.expression.Expr.{Expr}
use Rattle.sc_values.specs.declared.expression.Expr.TheOpen as tree
use Rattle.sc_values.specs.declared.expression.Expr.TheViews.{roll-Expr}
use Rattle.sc_values.specs.declared.expression.Expr.TheFolds.{fold-roll-Expr}
use Rattle.sc_values.specs.Expr.{value as value_of, value_step}
use Rattle.sc_graph.specs.declared.program.Variable.{Variable}
use Rattle.sc_graph.specs.declared.program.Role.TheVariants as role
use Rattle.core_charts.specs.declared.region.Effect.{Effect}
use Rattle.core_charts.specs.declared.region.Transition.{Transition}
use Rattle.core_charts.specs.declared.region.TransitionKind.{TransitionKind}
use Rattle.core_charts.specs.declared.region.TransitionKind.TheVariants as kind
use Rattle.core_charts.specs.declared.region.Region.TheViews.{roll-Region}
use Rattle.core_charts.specs.declared.region.Region.TheFolds.{fold-roll-Region}
use Rattle.core_charts.specs.declared.region.State.{State}
use Rattle.chart_machine.specs.declared.table.Table.{Table}
use Rattle.chart_machine.specs.Table.{Subtree, region_subtree, state_subtree, subtree_of_region, subtree_of_state, side_by_side, whole, table_over}

-- names of variables
abbrev pub letter_A : ℕ
letter_A = 65

abbrev pub letter_B : ℕ
letter_B = 66

abbrev pub letter_m : ℕ
letter_m = 109

abbrev pub letter_n : ℕ
letter_n = 110

-- `input bool NAME`, whose name is this letter
abbrev pub input : ℕ → Variable
input letter = record { name = letter ∷ []; kind = of_kind.Bool; role = role.Input }

-- `output int NAME`
abbrev pub output : ℕ → Variable
output letter = record { name = letter ∷ []; kind = of_kind.Int; role = role.Output }

-- the expressions of the rows
abbrev pub read : ℕ → Expr
read x = roll-Expr (tree.Load x)

abbrev pub number : ℕ → Expr
number n = roll-Expr (tree.Literal (value.Int (pos n)))

-- and what they come to
pub of_read : (x : ℕ) (vs : List Value) → value_of (read x) vs ≡ slice_get vs x
of_read x vs = ap (λ f. f vs) (fold-roll-Expr (List Value → Option Value) value_step (tree.Load x))

pub of_number : (n : ℕ) (vs : List Value) → value_of (number n) vs ≡ Some (value.Int (pos n))
of_number n vs = ap (λ f. f vs) (fold-roll-Expr (List Value → Option Value) value_step (tree.Literal (value.Int (pos n))))

-- the variable of this number becomes the value
abbrev pub becomes : ℕ → Expr → Effect
becomes x e = record { variable = x; value = e }

-- a transition of a kind to the state of this place: not immediate, without trigger and effects
abbrev pub leads : TransitionKind → ℕ → Transition
leads k target = record { kind = k; immediate = false; trigger = None; effects = []; target = target }

abbrev pub go : ℕ → Transition
go = leads kind.Go

abbrev pub strong : ℕ → Transition
strong = leads kind.Strong

abbrev pub weak : ℕ → Transition
weak = leads kind.Weak

abbrev pub join : ℕ → Transition
join = leads kind.Join

abbrev pub immediate : Transition → Transition
immediate t = record t { immediate = true }

-- `if NAME`, the variable of this number
abbrev pub only_if : ℕ → Transition → Transition
only_if x t = record t { trigger = Some (read x) }

abbrev pub doing : List Effect → Transition → Transition
doing effects t = record t { effects = effects }

-- a state, initial or not, with its regions and transitions
abbrev pub a_state : Bool → Bool → List Subtree → List Transition → Subtree
a_state is_initial is_final regions transitions = state_subtree (record {
  name = [];
  is_initial = is_initial;
  is_final = is_final;
  regions = regions;
  transitions = transitions;
})

abbrev pub initial_state : List Subtree → List Transition → Subtree
initial_state = a_state true false

abbrev pub state : List Subtree → List Transition → Subtree
state = a_state false false

abbrev pub final_state : Subtree
final_state = a_state false true [] []

abbrev pub initial_final_state : Subtree
initial_final_state = a_state true true [] []

abbrev pub region : List Subtree → Subtree
region states = region_subtree (record { name = []; states = states })

-- the table of a chart of such regions
abbrev pub chart : List Variable → List Subtree → Table
chart variables regions = table_over variables (side_by_side regions whole)

-- a region is told so by what its states are: names have no part in it
pub told_so : (name : List ℕ) (states : List State) →
    subtree_of_region (roll-Region (record { name = name; states = states })) ≡ region (map subtree_of_state states)
told_so name states = fold-roll-Region Subtree Subtree region_subtree state_subtree (record { name = name; states = states })
