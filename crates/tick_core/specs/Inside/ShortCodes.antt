-- The value of an operation that is an operand.
use Rattle.std.specs.Prelude.{Option, Some, None, List, slice_get}
use Rattle.sc_values.specs.declared.value.Value.{Value}
use Rattle.sc_values.specs.declared.operation.Operation.{Operation}
use Rattle.sc_values.specs.declared.operation.Operation.TheVariants as op

-- what a literal or a load leaves, over the variables; None of an operator
abbrev pub operand_value : Operation → List Value → Option Value
operand_value (op.Literal v) variables = Some v
operand_value (op.Load x) variables = slice_get variables x
operand_value other variables = None
