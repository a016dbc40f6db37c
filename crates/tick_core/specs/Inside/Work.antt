-- The value that a step takes, and the parts of a claim, compared and made.
use Rattle.std.specs.Prelude.{◌≡◌, Option, Some, None, List, option_and_then}
use Rattle.sc_values.specs.declared.value.Value.{Value}
use Rattle.sc_values.specs.declared.operation.Operation.{Operation}
use Rattle.sc_values.specs.Code.{code_value, IsWellFormed}
use Rattle.sc_values.specs.Checked.{Checked, Checks}
use Rattle.sc_graph.specs.declared.program.Step.{Step}
use Rattle.sc_graph.specs.declared.control.Control.{Control}
use Rattle.sc_graph.specs.declared.control.Status.{Status}
use Rattle.sc_graph.specs.Program.{Program, kinds}
use Rattle.tick_core.specs.Stepping.{code_of, code_at}
use Rattle.tick_core.specs.Claims.{Claim, HasOperands, operations_of, present_operands}

-- the value of a node's code over the present variables
abbrev pub value_of : Control → Step → Option Value
value_of c s = option_and_then (λ code. code_value code c.variables) (code_of s)

-- the value that the step from this status takes
abbrev pub value_at : Program → Control → Status → Option Value
value_at p c s = option_and_then (λ code. code_value code c.variables) (code_at p s)

-- claims of the same worker, thread, node and moment
pub record IsAlike (a b : Claim) : Type 0 where
  pub worker : a.worker ≡ b.worker
  pub thread : a.thread ≡ b.thread
  pub node : a.node ≡ b.node
  pub commits : a.commits ≡ b.commits

-- claims of the same work
pub record DoesSame (a b : Claim) : Type 0 where
  pub code : a.code ≡ b.code
  pub operands : a.operands ≡ b.operands

-- where there is a code, it is well formed
abbrev pub HasFormedCode : Program → Option (List Operation) → Type 0
HasFormedCode p None = Unit {0}
HasFormedCode p (Some code) = IsWellFormed (kinds p) code

-- the checked code of the step from a status, where it has one, and the present values of what it loads
pub record IsWork (p : Program) (c : Control) (s : Status) (code : Option Checked) (operands : List Value) : Type 0 where
  pub code_is : operations_of code ≡ code_at p s
  pub checked : (k : Checked) → code ≡ Some k → Checks (kinds p) k.operations k
  pub operands_are : operands ≡ present_operands c.variables (code_at p s)
  pub fit : HasOperands code operands
