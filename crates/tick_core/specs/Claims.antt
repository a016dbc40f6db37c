-- Claims: a step that a worker is to evaluate, and what it carries.
use Rattle.std.specs.Prelude.{ℕ, ◌≡◌, Option, Some, None, List, [], map, option_map}
use Rattle.sc_values.specs.declared.value.Value.{Value}
use Rattle.sc_values.specs.declared.operation.Operation.{Operation}
use Rattle.sc_values.specs.Operator.{kind_of}
use Rattle.sc_values.specs.Checked.{Checked, loaded_from, value_over}

-- who is to step, on whose account, at which node, by which code over which operands, and how many
-- commits came before
pub record Claim : Type 0 where
  pub worker : ℕ
  pub thread : ℕ
  pub node : ℕ
  pub code : Option Checked
  pub operands : List Value
  pub commits : ℕ

-- a claim that was evaluated, and its value; a node without code has none
pub record Done : Type 0 where
  pub claim : Claim
  pub value : Option Value

-- the value of a code over operands; none without a code
abbrev pub value_by : Option Checked → List Value → Option Value
value_by None operands = None
value_by (Some code) operands = value_over operands code.operations

-- one operand for each load, of its kind
abbrev pub HasOperands : Option Checked → List Value → Type 0
HasOperands None operands = operands ≡ []
HasOperands (Some code) operands = map kind_of operands ≡ code.loads

abbrev pub operations_of : Option Checked → Option (List Operation)
operations_of code = option_map (λ k. k.operations) code

-- the checked code of these operations whose loads take these operands
abbrev pub checked_by : Option (List Operation) → List Value → Option Checked
checked_by code operands = option_map (λ o. record { operations = o; loads = map kind_of operands }) code

-- the present values of what a code loads
abbrev pub present_operands : List Value → Option (List Operation) → List Value
present_operands variables None = []
present_operands variables (Some code) = loaded_from variables code
