-- The node and the code of the step that a thread takes next.
use Rattle.std.specs.Prelude.{ℕ, Option, Some, None, List, option_and_then}
use Rattle.sc_values.specs.declared.operation.Operation.{Operation}
use Rattle.sc_graph.specs.declared.program.Step.{Step}
use Rattle.sc_graph.specs.declared.program.Step.TheVariants as step
use Rattle.sc_graph.specs.declared.control.Status.{Status}
use Rattle.sc_graph.specs.declared.control.Status.TheVariants as status
use Rattle.sc_graph.specs.Program.{Program, step_at}

-- the code of a node, where it has one
abbrev pub code_of : Step → Option (List Operation)
code_of (step.Assign x code next) = Some code
code_of (step.Update x f code next) = Some code
code_of (step.Cond code on_true on_false) = Some code
code_of other = None

-- the node at which a thread that stands so takes its step
abbrev pub node_of : Status → Option ℕ
node_of (status.At n) = Some n
node_of (status.Waiting j) = Some j
node_of other = None

-- the code of the step from this status
abbrev pub code_at : Program → Status → Option (List Operation)
code_at p s = option_and_then (λ n. option_and_then code_of (step_at p n)) (node_of s)
