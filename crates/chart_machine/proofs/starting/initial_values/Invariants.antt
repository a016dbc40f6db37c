use Rattle.std.proofs.Common.{◌≡◌, ◌++◌, map, drop}
use Rattle.sc_values.specs.Operator.{initial_value}
use Rattle.chart_machine.proofs.starting.initial_values.Given as goal

abbrev pub invariant-loop-variable : goal.invariant-loop-variable
invariant-loop-variable l =
    l.values ++ map (λ x. initial_value x.kind) (drop l.variable-index l.variables) ≡ map (λ x. initial_value x.kind) l.variables
