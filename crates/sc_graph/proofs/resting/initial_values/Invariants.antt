use Rattle.std.proofs.Common.{◌≡◌, map, take}
use Rattle.sc_values.specs.Operator.{initial_value}
use Rattle.sc_graph.proofs.resting.initial_values.Given as goal

abbrev pub invariant-loop-variable : goal.invariant-loop-variable
invariant-loop-variable l = l.values ≡ map (λ x. initial_value x.kind) (take l.variable-index l.variables)
