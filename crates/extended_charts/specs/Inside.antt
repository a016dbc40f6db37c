-- What private functions make: what is put into a state whose name and marks stand already.
use Rattle.std.specs.Prelude.{ℕ, true, Some, List, ◌++◌, map}
use Rattle.sc_values.specs.declared.expression.Expr.{Expr}
use Rattle.core_charts.specs.declared.region.Effect.{Effect}
use Rattle.core_charts.specs.declared.region.Transition.{Transition}
use Rattle.extended_charts.specs.declared.extended.ExtendedState.{ExtendedState}
use Rattle.extended_charts.specs.declared.extended.ExtendedRegion.TheViews.{out-ExtendedState, roll-ExtendedState}
use Rattle.extended_charts.specs.Making.{always}
use Rattle.extended_charts.specs.Durings.{with_region, tested_behind, acting_region}
use Rattle.extended_charts.specs.Holds.{untested, held_inside}

-- the transition that makes an action where the condition is true
abbrev pub acts_where : (condition : Expr) → List Effect → (target : ℕ) → Transition
acts_where condition effects target = record (always true effects target) { trigger = Some condition }

abbrev pub fill_acting : (s acting : ExtendedState) → ExtendedState
fill_acting s acting =
    roll-ExtendedState (record (out-ExtendedState acting) {
      entry = (out-ExtendedState acting).entry ++ (out-ExtendedState s).entry;
      exit = (out-ExtendedState acting).exit ++ (out-ExtendedState s).exit;
      regions =
          with_region (out-ExtendedState s).during ((out-ExtendedState acting).regions ++ map acting_region (out-ExtendedState s).regions);
      transitions =
          (out-ExtendedState acting).transitions ++ tested_behind (out-ExtendedState s).during (out-ExtendedState s).transitions;
    })

abbrev pub fill_held : (s held : ExtendedState) → ExtendedState
fill_held s held =
    roll-ExtendedState (record (out-ExtendedState held) {
      entry = (out-ExtendedState held).entry ++ (out-ExtendedState s).entry;
      exit = (out-ExtendedState held).exit ++ (out-ExtendedState s).exit;
      regions = (out-ExtendedState held).regions ++ held_inside s;
      transitions = (out-ExtendedState held).transitions ++ map untested (out-ExtendedState s).transitions;
    })
