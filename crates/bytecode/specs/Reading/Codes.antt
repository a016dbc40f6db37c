-- Reading operations and codes.
use Rattle.std.specs.Prelude.{ℕ, zero, suc, Bool, ◌&&◌, ◌==◌, nat_le, if◌then◌else◌, List, [], ◌∷◌, Ok, slice_get}
use Rattle.std.specs.Int.{w16, w32, cast_signed}
use Rattle.sc_values.specs.declared.value.Value.TheVariants as value
use Rattle.sc_values.specs.declared.operation.Operation.{Operation}
use Rattle.sc_values.specs.declared.operation.Operation.TheVariants as op
use Rattle.sc_values.specs.Division.{divisor_of}
use Rattle.sc_values.specs.declared.divisor.Divisor.{Divisor}
use Rattle.sc_values.specs.declared.operator.UnaryOperator.{UnaryOperator}
use Rattle.sc_values.specs.declared.operator.UnaryOperator.TheVariants as unary
use Rattle.sc_values.specs.declared.operator.BinaryOperator.TheVariants as binary
use Rattle.sc_values.specs.Limits.{operation_limit}
use Rattle.bytecode.specs.Codes.{division_version}
use Rattle.bytecode.specs.Reading.{◌>>=◌, Reader, or_field, each_at}
use Rattle.bytecode.specs.Reading.Fields.{byte_at, number_at, choice_at, flags, length_at}

-- the operators: a number from 3 on is a place in this list
abbrev pub operators : List Operation
operators =
    op.Unary unary.Negate ∷ op.Unary unary.Not
    ∷ op.Binary binary.Add ∷ op.Binary binary.Subtract ∷ op.Binary binary.Multiply ∷ op.Binary binary.Min
    ∷ op.Binary binary.Max ∷ op.Binary binary.And ∷ op.Binary binary.Or ∷ op.Binary binary.Equal
    ∷ op.Binary binary.NotEqual ∷ op.Binary binary.Less ∷ op.Binary binary.LessOrEqual ∷ op.Binary binary.Greater
    ∷ op.Binary binary.GreaterOrEqual ∷ []

-- what comes behind the number of an operation, which begins these bytes
unfoldable pub operation_body : List ℕ → ℕ → Reader Operation
operation_body bytes zero rest = do
  b ← choice_at flags rest
  Ok (op.Literal (value.Bool b.0), b.1)
operation_body bytes (suc zero) rest = do
  n ← number_at w32 rest
  Ok (op.Literal (value.Int (cast_signed w32 n.0)), n.1)
operation_body bytes (suc (suc zero)) rest = do
  x ← number_at w16 rest
  Ok (op.Load x.0, x.1)
operation_body bytes (suc (suc (suc n))) rest = do
  operator ← or_field bytes (slice_get operators n)
  Ok (operator, rest)

-- a divisor, which is not 0
unfoldable pub divisor_at : Reader Divisor
divisor_at bytes = do
  n ← number_at w32 bytes
  divisor ← or_field bytes (divisor_of (cast_signed w32 n.0))
  Ok (divisor, n.1)

-- the two divisions, of which the first version has none
abbrev pub is_division : ℕ → ℕ → Bool
is_division version number = nat_le 18 number && nat_le number 19 && nat_le division_version version

abbrev pub division : ℕ → Divisor → UnaryOperator
division number d = if number == 18 then unary.Divide d else unary.Remainder d

unfoldable pub division_at : ℕ → Reader Operation
division_at number bytes = do
  d ← divisor_at bytes
  Ok (op.Unary (division number d.0), d.1)

unfoldable pub operation_at : ℕ → Reader Operation
operation_at version bytes = do
  number ← byte_at bytes
  if is_division version number.0 then division_at number.0 number.1 else operation_body bytes number.0 number.1

unfoldable pub code_at : ℕ → Reader (List Operation)
code_at version bytes = do
  len ← length_at 0 operation_limit bytes
  each_at (operation_at version) len.0 len.1
