use Rattle.trace_lines.specs.Inside.Expected.{ListsInputs}
use Rattle.trace_lines.proofs.expected.expected_of.Given as goal

abbrev pub invariant-loop-name : goal.invariant-loop-name
invariant-loop-name l = ListsInputs l.variables l.inputs.items
