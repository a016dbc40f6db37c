-- What the fields of an image can say.
use Rattle.std.specs.Prelude.{ℕ, ◌<◌, ◌≤◌, ◌^◌, IsTrue, IfSome, List, length}
use Rattle.std.specs.List.{AllByRecursion}
use Rattle.std.specs.Int.{w32}
use Rattle.std.specs.Int.RustNames.{FitsSigned}
use Rattle.sc_values.specs.declared.value.Value.TheVariants as value
use Rattle.sc_values.specs.declared.operation.Operation.{Operation}
use Rattle.sc_values.specs.declared.operation.Operation.TheVariants as op
use Rattle.sc_values.specs.declared.operator.UnaryOperator.TheVariants as unary
use Rattle.sc_values.specs.Limits.{operation_limit}
use Rattle.sc_values.specs.Name.{is_name}
use Rattle.sc_graph.specs.declared.program.Variable.{Variable}
use Rattle.sc_graph.specs.declared.program.Step.{Step}
use Rattle.sc_graph.specs.declared.program.Step.TheVariants as step
use Rattle.sc_graph.specs.Limits.{count_limit, child_count_limit, no_parent}
use Rattle.bytecode.specs.declared.rows.ThreadRow.{ThreadRow}
use Rattle.bytecode.specs.declared.rows.NodeRow.{NodeRow}
use Rattle.bytecode.specs.Image.{Image}
use Rattle.sc_graph.specs.Tables.{HasLengths}
use Rattle.bytecode.specs.Codes.{division_version}
use Rattle.bytecode.specs.Layout.{rows_of_threads, rows_of_nodes}

abbrev pub SayableVariable : Variable → Type 0
SayableVariable v = IsTrue (is_name v.name)

-- an integer has 32 bits, and divisions came with version 2
abbrev pub SayableOperation : ℕ → Operation → Type 0
SayableOperation version (op.Literal (value.Int n)) = FitsSigned w32 n
SayableOperation version (op.Load x) = x < 2 ^ 16
SayableOperation version (op.Unary (unary.Divide d)) = (division_version ≤ version) × FitsSigned w32 d.number
SayableOperation version (op.Unary (unary.Remainder d)) = (division_version ≤ version) × FitsSigned w32 d.number
SayableOperation version other = Unit {0}

abbrev pub SayableCode : ℕ → List Operation → Type 0
SayableCode version code = (length code ≤ operation_limit) × AllByRecursion (SayableOperation version) code

-- no parent has the number that stands for none
pub record SayableThread (t : ThreadRow) : Type 0 where
  pub parent : IfSome t.thread.parent (λ p. p < no_parent)
  pub entry : t.thread.entry < 2 ^ 16
  pub bound : t.bound < 2 ^ 32

abbrev pub SayableStep : ℕ → Step → Type 0
SayableStep version step.Exit = Unit {0}
SayableStep version (step.Assign variable code next) =
    (variable < 2 ^ 16) × (next < 2 ^ 16) × SayableCode version code
SayableStep version (step.Update variable combine code next) =
    (variable < 2 ^ 16) × (next < 2 ^ 16) × SayableCode version code
SayableStep version (step.Cond code target other) = (target < 2 ^ 16) × (other < 2 ^ 16) × SayableCode version code
SayableStep version (step.Fork children join) =
    (join < 2 ^ 16) × (length children ≤ child_count_limit) × AllByRecursion (λ t. t < 2 ^ 16) children
SayableStep version (step.Join next) = next < 2 ^ 16
SayableStep version (step.Surf depth) = depth < 2 ^ 16
SayableStep version (step.Depth next) = next < 2 ^ 16

pub record SayableNode (version : ℕ) (n : NodeRow) : Type 0 where
  pub owner : n.node.owner < 2 ^ 16
  pub priority : n.priority < 2 ^ 16
  pub weight : n.weight < 2 ^ 16
  pub step : SayableStep version n.node.step

pub record SayableImage (version : ℕ) (i : Image) : Type 0 where
  pub variables_counted : length i.program.variables ≤ count_limit
  pub threads_counted : length i.program.threads ≤ count_limit
  pub nodes_counted : length i.program.nodes ≤ count_limit
  pub lengths : HasLengths i.program i.tables
  pub variables : AllByRecursion SayableVariable i.program.variables
  pub threads : AllByRecursion SayableThread (rows_of_threads i)
  pub nodes : AllByRecursion (SayableNode version) (rows_of_nodes i)
  pub budget : i.tables.budget < 2 ^ 32
