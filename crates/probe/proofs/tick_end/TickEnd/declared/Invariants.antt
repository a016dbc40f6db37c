use Rattle.std.proofs.Common.{◌≡◌, ◌++◌}
use Rattle.probe.specs.Outputs.{outputs_among}
use Rattle.probe.proofs.tick_end.TickEnd.declared.Given as goal

-- what is left adds what is missing
abbrev pub invariant-loop-variable : goal.invariant-loop-variable
invariant-loop-variable l =
    l.end ++ outputs_among l.variable-iterator.a.rest.now l.variable-iterator.b.rest.now ≡ outputs_among l.variables l.values
