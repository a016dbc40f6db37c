-- Worked pieces: what passes make of small regions.
use Rattle.std.proofs.Common.{◌≡◌, ℕ, pos, true, false, Bool, Some, None, List, [], ◌∷◌, refl}
use Rattle.std.specs.Prelude.{codes}
use Rattle.sc_values.specs.declared.value.Value.TheVariants as value
use Rattle.sc_values.specs.declared.value.Kind.TheVariants as of_kind
use Rattle.sc_values.specs.declared.operator.BinaryOperator.TheVariants as operator
use Rattle.sc_values.specs.declared.expression.Expr.{Expr}
use Rattle.sc_values.specs.declared.expression.Expr.TheVariants as expr
use Rattle.sc_values.specs.declared.expression.Expr.TheOpen as tree
use Rattle.sc_graph.specs.declared.program.Role.TheVariants as role
use Rattle.core_charts.specs.declared.region.Effect.{Effect}
use Rattle.core_charts.specs.declared.region.Transition.{Transition}
use Rattle.core_charts.specs.declared.region.TransitionKind.TheVariants as kind
use Rattle.core_charts.specs.declared.region.State.{State}
use Rattle.core_charts.specs.declared.region.Region.TheViews.{roll-Region, roll-State}
use Rattle.extended_charts.specs.declared.extended.ExtendedState.{ExtendedState}
use Rattle.extended_charts.specs.declared.reading.Reading.{Reading}
use Rattle.extended_charts.specs.declared.reading.Reading.TheVariants as reading
use Rattle.extended_charts.specs.Reading.{elapsed, replaced_step}
use Rattle.chart_reduction.specs.Counts.{counting, count_region}
use Rattle.chart_reduction.specs.Clocks.{all_states}
use Rattle.sc_text.specs.MadeNames.{numbered}
use Rattle.extended_charts.specs.Making.{always, passing, region}
use Rattle.chart_reduction.specs.Registers.{register_region}
use Rattle.extended_charts.specs.Signals.{reset, signal_region}
use Rattle.chart_reduction.specs.Initial.{settings}
use Rattle.chart_reduction.specs.Entry.{Entered}
use Rattle.chart_reduction.specs.Entry as entry
use Rattle.chart_reduction.specs.Rows.{numbers}

abbrev to : Expr → (target : ℕ) → Transition
to trigger target =
    record { kind = kind.Go; immediate = false; trigger = Some trigger; effects = []; target = target }

-- ---- entry actions: Off has none, On has one

abbrev off : Expr → Entered
off e =
    record { name = codes "Off"; is_initial = true; is_final = false; entry = []; regions = []; transitions = to e 1 ∷ [] }

abbrev on : Effect → Expr → Entered
on a e =
    record { name = codes "On"; is_initial = false; is_final = false; entry = a ∷ []; regions = []; transitions = to e 0 ∷ to e 1 ∷ [] }

abbrev simple : List ℕ → Bool → List Transition → State
simple name is_initial transitions =
    roll-State (record { name = name; is_initial = is_initial; is_final = false; regions = []; transitions = transitions })

entered_once : (a : Effect) (e : Expr) → entry.region_step (record { name = codes "M"; states = off e ∷ on a e ∷ [] }) ≡
    roll-Region (record {
      name = codes "M";
      states = simple (codes "Off") true (to e 1 ∷ [])
          ∷ simple (numbered (codes "enter__") 1) false (always true (a ∷ []) 2 ∷ [])
          ∷ simple (codes "On") false (to e 0 ∷ to e 1 ∷ [])
          ∷ [];
    })
entered_once a e = refl

-- where the initial state has them, the one before it is initial
entered_first : (a : Effect) (e : Expr)
    → entry.region_step (record { name = codes "M"; states = record (on a e) { is_initial = true } ∷ record (off e) { is_initial = false } ∷ [] }) ≡
    roll-Region (record {
      name = codes "M";
      states = simple (numbered (codes "enter__") 0) true (always true (a ∷ []) 1 ∷ [])
          ∷ simple (codes "On") false (to e 0 ∷ to e 2 ∷ [])
          ∷ simple (codes "Off") false (to e 2 ∷ [])
          ∷ [];
    })
entered_first a e = refl

-- ---- what variable 1 of two was: variable 2 has it, variable 3 is its register

abbrev from : (variable source : ℕ) → List Effect
from variable source = record { variable = variable; value = expr.Load source } ∷ []

one_register : register_region 2 (1 ∷ []) ≡ region (codes "registers__1")
    (passing true 0 (from 3 1) 1 ∷ passing false 1 [] 2 ∷ passing true 2 (from 2 3) 3 ∷ passing true 3 [] 0 ∷ [])
one_register = refl

-- ---- signals: variables 1 and 4 are such

two_signals : signal_region (1 ∷ 4 ∷ []) ≡ region (codes "signals__1")
    (passing false 0 [] 1 ∷ passing true 1 (reset 1 ∷ []) 2 ∷ passing true 2 (reset 4 ∷ []) 3 ∷ passing true 3 [] 0 ∷ [])
two_signals = refl

-- ---- initial values: of three variables the second has one that it does not hold anyway

only_others : settings 0
    (record { variable = record { name = codes "a"; kind = of_kind.Int; role = role.Local }; initial = Some (value.Int (pos 0)) }
    ∷ record { variable = record { name = codes "b"; kind = of_kind.Int; role = role.Local }; initial = Some (value.Int (pos 3)) }
    ∷ record { variable = record { name = codes "c"; kind = of_kind.Bool; role = role.Local }; initial = None }
    ∷ []) ≡ record { variable = 1; value = expr.Literal (value.Int (pos 3)) } ∷ []
only_others = refl

-- ---- constants: 0 is a variable, 1 is the constant 5

abbrev named : Reading
named = reading.Values (None ∷ Some (value.Int (pos 5)) ∷ [])

constant_read : replaced_step named (tree.Load 1) ≡ expr.Literal (value.Int (pos 5))
constant_read = refl

variable_read : replaced_step named (tree.Load 0) ≡ expr.Load 0
variable_read = refl

-- ---- the ticks since a state was entered: variable 2 is the time, variable 3 that at which the state was entered

ticks_read : replaced_step (reading.Elapsed 2 3) (tree.Load elapsed) ≡ expr.Binary operator.Subtract (expr.Load 2) (expr.Load 3)
ticks_read = refl

others_read : replaced_step (reading.Elapsed 2 3) (tree.Load 0) ≡ expr.Load 0
others_read = refl

-- of three states the first and the last ask
own_times : (asks other : (now at : ℕ) → ExtendedState)
    → all_states 2 3 (record { clocks = 1; made = asks } ∷ record { clocks = 0; made = other } ∷ record { clocks = 1; made = asks } ∷ []) ≡
    asks 2 3 ∷ other 2 4 ∷ asks 2 4 ∷ []
own_times asks other = refl

-- ---- counts: variables 2 to 4 are those of the one condition

one_count : (condition : Expr) → count_region 2 (condition ∷ []) ≡ region (codes "counts__1")
    (passing true 0 (from 2 3) 1 ∷ passing true 1 (reset 4 ∷ []) 2 ∷ counting 2 2 condition ∷ passing false 3 [] 0 ∷ [])
one_count condition = refl

-- the second of three, and no variable is one
second_count : replaced_step (reading.Counted 10 3) (tree.Load 65533) ≡ expr.Load 13
second_count = refl

no_count : replaced_step (reading.Counted 10 3) (tree.Load 9) ≡ expr.Load 9
no_count = refl

-- ---- the author's are numbered in order

own_in_order : numbers 0 (false ∷ true ∷ false ∷ true ∷ []) ≡ None ∷ Some 0 ∷ None ∷ Some 1 ∷ []
own_in_order = refl
