use Rattle.std.proofs.Common.{◌≡◌, ◌++◌, map, drop}
use Rattle.embedded_machine.specs.Opened.{ended_by_zero}
use Rattle.embedded_machine.proofs.rows.names_of.Given as goal

abbrev pub invariant-loop-variable : goal.invariant-loop-variable
invariant-loop-variable l =
    l.bytes.items ++ ended_by_zero (map (λ x. x.name) (drop l.variable-index l.variables)) ≡ ended_by_zero (map (λ x. x.name) l.variables)
