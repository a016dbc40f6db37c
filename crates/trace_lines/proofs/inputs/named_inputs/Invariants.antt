use Rattle.trace_lines.specs.Inside.Named.{NamesBefore}
use Rattle.trace_lines.proofs.inputs.named_inputs.Given as goal

abbrev pub invariant-loop-place : goal.invariant-loop-place
invariant-loop-place l = NamesBefore l.variables l.place l.named
