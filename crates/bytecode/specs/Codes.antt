-- Codes as bytes: the number of operations in one byte, and the operations.
use Rattle.std.specs.Prelude.{ℕ, List, [], ◌∷◌, length}
use Rattle.std.specs.List.{flat_map}
use Rattle.std.specs.Int.{w32, cast_unsigned}
use Rattle.sc_values.specs.declared.value.Value.TheVariants as value
use Rattle.sc_values.specs.declared.divisor.Divisor.{Divisor}
use Rattle.sc_values.specs.declared.operation.Operation.{Operation}
use Rattle.sc_values.specs.declared.operation.Operation.TheVariants as op
use Rattle.sc_values.specs.declared.operator.UnaryOperator.{UnaryOperator}
use Rattle.sc_values.specs.declared.operator.UnaryOperator.TheVariants as unary
use Rattle.sc_values.specs.declared.operator.BinaryOperator.{BinaryOperator}
use Rattle.sc_values.specs.declared.operator.BinaryOperator.TheVariants as binary
use Rattle.bytecode.specs.Fields.{u16_bytes, u32_bytes, flag_number}

-- the version of the layout from which on there are divisions
abbrev pub division_version : ℕ
division_version = 2

abbrev pub unary_number : UnaryOperator → ℕ
unary_number unary.Negate = 3
unary_number unary.Not = 4
unary_number (unary.Divide d) = 18
unary_number (unary.Remainder d) = 19

-- what stands behind the number of an operator: a divisor of 32 bits, in two's complement
abbrev pub divisor_bytes : Divisor → List ℕ
divisor_bytes d = u32_bytes (cast_unsigned w32 d.number)

abbrev pub unary_operand : UnaryOperator → List ℕ
unary_operand (unary.Divide d) = divisor_bytes d
unary_operand (unary.Remainder d) = divisor_bytes d
unary_operand f = []

abbrev pub binary_number : BinaryOperator → ℕ
binary_number binary.Add = 5
binary_number binary.Subtract = 6
binary_number binary.Multiply = 7
binary_number binary.Min = 8
binary_number binary.Max = 9
binary_number binary.And = 10
binary_number binary.Or = 11
binary_number binary.Equal = 12
binary_number binary.NotEqual = 13
binary_number binary.Less = 14
binary_number binary.LessOrEqual = 15
binary_number binary.Greater = 16
binary_number binary.GreaterOrEqual = 17

-- an operation: its number, and what a literal, a load or a division is of. An integer has 32 bits, in two's complement
unfoldable pub operation_bytes : Operation → List ℕ
operation_bytes (op.Literal (value.Bool b)) = 0 ∷ flag_number b ∷ []
operation_bytes (op.Literal (value.Int n)) = 1 ∷ u32_bytes (cast_unsigned w32 n)
operation_bytes (op.Load x) = 2 ∷ u16_bytes x
operation_bytes (op.Unary f) = unary_number f ∷ unary_operand f
operation_bytes (op.Binary f) = binary_number f ∷ []

unfoldable pub code_bytes : List Operation → List ℕ
code_bytes code = length code ∷ flat_map operation_bytes code
