use Rattle.std.proofs.Common.{◌≡◌, List, length, drop}
use Rattle.sc_values.specs.declared.value.Value.{Value}
use Rattle.trace_lines.specs.Output.{outputs_of, with_outputs}
use Rattle.trace_lines.specs.Inside.Rows.{placed}
use Rattle.trace_lines.proofs.outputs.places_of.Given as goal

-- what is left adds what is missing
abbrev pub invariant-loop-place : goal.invariant-loop-place
invariant-loop-place l =
    (values : List Value) → length values ≡ length l.variables → with_outputs (drop l.place l.variables) (drop l.place values) (placed l.places.entries values)
    ≡ outputs_of l.variables values
