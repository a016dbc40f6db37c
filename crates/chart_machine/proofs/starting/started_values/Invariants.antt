use Rattle.std.proofs.Common.{◌≡◌, ◌++◌, drop}
use Rattle.sc_graph.specs.Tick.{values_at_start}
use Rattle.chart_machine.proofs.starting.started_values.Given as goal

abbrev pub invariant-loop-x : goal.invariant-loop-x
invariant-loop-x l =
    l.started ++ values_at_start l.inputs (drop l.x l.variables) (drop l.x l.values) ≡ values_at_start l.inputs l.variables l.values
