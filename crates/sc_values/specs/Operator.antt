-- What the operators compute. An integer is taken modulo 2 ^ 32 into the signed range.
use Rattle.std.specs.Prelude.{Option, Some, None, Bool, false, not, ◌&&◌, ◌||◌, ℤ, pos, ◌+ℤ◌, ◌-ℤ◌, ◌*ℤ◌, neg_ℤ, int_lt, int_le, unwrap_or}
use Rattle.std.specs.Int.{int_wrap, int_min, int_max, w32}
use Rattle.std.specs.Ordering.{int_eq}
use Rattle.sc_values.specs.Division.{quotient, remainder}
use Rattle.sc_values.specs.declared.value.Value.{Value}
use Rattle.sc_values.specs.declared.value.Value.TheVariants as value
use Rattle.sc_values.specs.declared.value.Kind.{Kind}
use Rattle.sc_values.specs.declared.value.Kind.TheVariants as kind
use Rattle.sc_values.specs.declared.operator.UnaryOperator.{UnaryOperator}
use Rattle.sc_values.specs.declared.operator.UnaryOperator.TheVariants as unary
use Rattle.sc_values.specs.declared.operator.BinaryOperator.{BinaryOperator}
use Rattle.sc_values.specs.declared.operator.BinaryOperator.TheVariants as binary
use Rattle.sc_values.specs.declared.operator.Combination.{Combination}
use Rattle.sc_values.specs.declared.operator.Combination.TheVariants as combine

abbrev pub kind_of : Value → Kind
kind_of (value.Bool b) = kind.Bool
kind_of (value.Int n) = kind.Int

-- what a variable of this kind holds before anything is written
abbrev pub initial_value : Kind → Value
initial_value kind.Bool = value.Bool false
initial_value kind.Int = value.Int (pos 0)

abbrev pub int_of : ℤ → Option Value
int_of n = Some (value.Int (int_wrap w32 n))

abbrev pub bool_of : Bool → Option Value
bool_of b = Some (value.Bool b)

-- both are true or both are false
abbrev pub same : Bool → Bool → Bool
same a b = (a && b) || (not a && not b)

abbrev pub unary_value : UnaryOperator → Value → Option Value
unary_value unary.Negate (value.Int n) = int_of (neg_ℤ n)
unary_value unary.Not (value.Bool b) = bool_of (not b)
unary_value (unary.Divide d) (value.Int n) = int_of (quotient n d)
unary_value (unary.Remainder d) (value.Int n) = int_of (remainder n d)
unary_value f a = None

-- an operator of two integers
abbrev pub int_value : BinaryOperator → ℤ → ℤ → Option Value
int_value binary.Add m n = int_of (m +ℤ n)
int_value binary.Subtract m n = int_of (m -ℤ n)
int_value binary.Multiply m n = int_of (m *ℤ n)
int_value binary.Min m n = Some (value.Int (int_min m n))
int_value binary.Max m n = Some (value.Int (int_max m n))
int_value binary.Equal m n = bool_of (int_eq m n)
int_value binary.NotEqual m n = bool_of (not (int_eq m n))
int_value binary.Less m n = bool_of (int_lt m n)
int_value binary.LessOrEqual m n = bool_of (int_le m n)
int_value binary.Greater m n = bool_of (int_lt n m)
int_value binary.GreaterOrEqual m n = bool_of (int_le n m)
int_value f m n = None

-- an operator of two truth values: both sides count
abbrev pub truth_value : BinaryOperator → Bool → Bool → Option Value
truth_value binary.And a b = bool_of (a && b)
truth_value binary.Or a b = bool_of (a || b)
truth_value binary.Equal a b = bool_of (same a b)
truth_value binary.NotEqual a b = bool_of (not (same a b))
truth_value f a b = None

abbrev pub binary_value : BinaryOperator → Value → Value → Option Value
binary_value f (value.Int m) (value.Int n) = int_value f m n
binary_value f (value.Bool a) (value.Bool b) = truth_value f a b
binary_value f a b = None

-- the operator by which an update combines
abbrev pub operator_of : Combination → BinaryOperator
operator_of combine.Add = binary.Add
operator_of combine.Multiply = binary.Multiply
operator_of combine.Min = binary.Min
operator_of combine.Max = binary.Max
operator_of combine.And = binary.And
operator_of combine.Or = binary.Or

-- the kind of what a combination takes and gives
abbrev pub kind_combined : Combination → Kind
kind_combined combine.And = kind.Bool
kind_combined combine.Or = kind.Bool
kind_combined f = kind.Int

-- what a variable becomes by an update: its value combined with another one, where their kinds fit
abbrev pub combined : Combination → Value → Value → Value
combined f present by = unwrap_or (binary_value (operator_of f) present by) present

-- the kind of what an operator gives, from the kinds of its operands
abbrev pub unary_kind : UnaryOperator → Kind → Option Kind
unary_kind unary.Negate kind.Int = Some kind.Int
unary_kind unary.Not kind.Bool = Some kind.Bool
unary_kind (unary.Divide d) kind.Int = Some kind.Int
unary_kind (unary.Remainder d) kind.Int = Some kind.Int
unary_kind f a = None

abbrev pub int_kind : BinaryOperator → Option Kind
int_kind binary.Add = Some kind.Int
int_kind binary.Subtract = Some kind.Int
int_kind binary.Multiply = Some kind.Int
int_kind binary.Min = Some kind.Int
int_kind binary.Max = Some kind.Int
int_kind binary.And = None
int_kind binary.Or = None
int_kind f = Some kind.Bool

abbrev pub truth_kind : BinaryOperator → Option Kind
truth_kind binary.And = Some kind.Bool
truth_kind binary.Or = Some kind.Bool
truth_kind binary.Equal = Some kind.Bool
truth_kind binary.NotEqual = Some kind.Bool
truth_kind f = None

abbrev pub binary_kind : BinaryOperator → Kind → Kind → Option Kind
binary_kind f kind.Int kind.Int = int_kind f
binary_kind f kind.Bool kind.Bool = truth_kind f
binary_kind f a b = None
