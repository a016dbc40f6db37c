use Rattle.std.proofs.Common.{◌≡◌, ◌++◌, option_map}
use Rattle.serde_json.specs.View.{members_view}
use Rattle.trace_lines.specs.Line.{inputs_of}
use Rattle.trace_lines.proofs.line.inputs_by.Given as goal

-- what is left gives what is missing
abbrev pub invariant-loop-name : goal.invariant-loop-name
invariant-loop-name l =
    inputs_of l.variables (members_view l.members.entries)
    ≡ option_map (λ rest. l.inputs.items ++ rest) (inputs_of l.variables (members_view l.name-iterator))
