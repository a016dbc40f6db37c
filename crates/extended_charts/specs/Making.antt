-- The names, literals, variables, transitions and states that reductions make. A made name has two underscores inside.
use Rattle.std.specs.Prelude.{ℕ, zero, suc, pos, ◌==◌, neg_ℤ, int_lt, Bool, true, false, Option, None, List, [], ◌∷◌, ◌++◌, codes, if◌then◌else◌}
use Rattle.std.specs.Int.{int_wrap, w32}
use Rattle.sc_values.specs.declared.value.Value.{Value}
use Rattle.sc_values.specs.declared.value.Value.TheVariants as value
use Rattle.sc_values.specs.declared.value.Kind.{Kind}
use Rattle.sc_values.specs.declared.value.Kind.TheVariants as of_kind
use Rattle.sc_values.specs.declared.operator.UnaryOperator.TheVariants as unary
use Rattle.sc_values.specs.declared.expression.Expr.{Expr}
use Rattle.sc_values.specs.declared.expression.Expr.TheVariants as expr
use Rattle.sc_graph.specs.declared.program.Role.TheVariants as role
use Rattle.sc_text.specs.MadeNames.{numbered}
use Rattle.core_charts.specs.declared.region.Effect.{Effect}
use Rattle.core_charts.specs.declared.region.Transition.{Transition}
use Rattle.core_charts.specs.declared.region.TransitionKind.TheVariants as kind
use Rattle.extended_charts.specs.declared.extended.Declared.{Declared}
use Rattle.extended_charts.specs.declared.extended.ExtendedRegion.{ExtendedRegion}
use Rattle.extended_charts.specs.declared.extended.ExtendedState.{ExtendedState}
use Rattle.extended_charts.specs.declared.extended.ExtendedRegion.TheViews.{out-ExtendedState, roll-ExtendedRegion, roll-ExtendedState}

abbrev pub has_some : {A : Type 0} → List A → Bool
has_some [] = false
has_some (x ∷ xs) = true

abbrev pub one : Bool → ℕ
one true = 1
one false = 0

-- ---- literals and variables

-- a negative number is a literal under a minus
abbrev pub literal : Value → Expr
literal (value.Bool b) = expr.Literal (value.Bool b)
literal (value.Int n) =
    if int_lt n (pos 0) then expr.Unary unary.Negate (expr.Literal (value.Int (int_wrap w32 (neg_ℤ n))))
    else expr.Literal (value.Int n)

abbrev pub local : List ℕ → Kind → Option Value → Declared
local name k initial =
    record { variable = record { name = name; kind = k; role = role.Local }; initial = initial }

-- as many int variables
abbrev pub integers : (word : List ℕ) → (count : ℕ) → List Declared
integers word zero = []
integers word (suc count) = integers word count ++ local (numbered word (suc count)) of_kind.Int None ∷ []

-- the variable becomes what another is
abbrev pub copy : (variable from : ℕ) → Effect
copy variable from = record { variable = variable; value = expr.Load from }

-- ---- steps

-- the transition without a trigger
abbrev pub always : (immediate : Bool) → List Effect → (target : ℕ) → Transition
always immediate effects target =
    record { kind = kind.Go; immediate = immediate; trigger = None; effects = effects; target = target }

-- a state that is made, with these parts
abbrev pub made_state : List ℕ → (is_initial : Bool) → List ExtendedRegion → List Transition → ExtendedState
made_state name is_initial regions transitions =
    roll-ExtendedState (record {
      name = name;
      is_own = false;
      is_initial = is_initial;
      is_final = false;
      entry = [];
      exit = [];
      during = [];
      regions = regions;
      transitions = transitions;
    })

-- the state with nothing in it
abbrev pub bare : ExtendedState → ExtendedState
bare s =
    roll-ExtendedState (record (out-ExtendedState s) { entry = []; exit = []; during = []; regions = []; transitions = [] })

-- the state of this place, which makes these effects and goes on: at once, or in the next tick
abbrev pub passing : (immediate : Bool) → (place : ℕ) → List Effect → (target : ℕ) → ExtendedState
passing immediate place effects target =
    made_state (numbered (codes "step__") place) (place == 0) [] (always immediate effects target ∷ [])

-- states from this place on that make these effects, one after the other, and lead to the place behind them
abbrev pub all_passing : (place : ℕ) → List Effect → List ExtendedState
all_passing place [] = []
all_passing place (e ∷ effects) = passing true place (e ∷ []) (suc place) ∷ all_passing (suc place) effects

abbrev pub region : List ℕ → List ExtendedState → ExtendedRegion
region name states = roll-ExtendedRegion (record { name = name; states = states })
