-- Codes that were checked, and their value over the operands that their loads take.
use Rattle.std.specs.Prelude.{ℕ, suc, ◌≡◌, Option, List, [], ◌∷◌, filter_map, slice_get}
use Rattle.sc_values.specs.declared.value.Value.{Value}
use Rattle.sc_values.specs.declared.value.Kind.{Kind}
use Rattle.sc_values.specs.declared.operation.Operation.{Operation}
use Rattle.sc_values.specs.declared.operation.Operation.TheVariants as op
use Rattle.sc_values.specs.Code.{code_value, loads, IsWellFormed}

-- what stands at the variables that a code loads, in the order of its loads
abbrev pub loaded_from : {A : Type 0} → List A → List Operation → List A
loaded_from all code = filter_map (slice_get all) (loads code)

-- the code with its loads numbered in their order, from n on
abbrev pub numbered : ℕ → List Operation → List Operation
numbered n [] = []
numbered n (op.Load x ∷ code) = op.Load n ∷ numbered (suc n) code
numbered n (o ∷ code) = o ∷ numbered n code

-- the value of the tree that a code spells, where each load takes its operand, in the order of the loads
abbrev pub value_over : List Value → List Operation → Option Value
value_over operands code = code_value (numbered 0 code) operands

-- a checked code: its operations, and the kinds of its loads in their order
pub record Checked : Type 0 where
  pub operations : List Operation
  pub loads : List Kind

-- what checking a code under the variables' kinds gives
pub record Checks (kinds : List Kind) (code : List Operation) (checked : Checked) : Type 0 where
  pub formed : IsWellFormed kinds code
  pub operations : checked.operations ≡ code
  pub loads : checked.loads ≡ loaded_from kinds code

-- some kinds of the variables give this
pub record IsChecked (checked : Checked) : Type 0 where
  pub kinds : List Kind
  pub checks : Checks kinds checked.operations checked
