-- What one operation does to a stack of values or of kinds, the topmost first.
use Rattle.std.specs.Prelude.{ℕ, suc, ◌-◌, Option, Some, None, List, [], ◌∷◌, slice_get, length, nat_le, if◌then◌else◌, option_and_then}
use Rattle.sc_values.specs.declared.value.Value.{Value}
use Rattle.sc_values.specs.declared.value.Kind.{Kind}
use Rattle.sc_values.specs.declared.value.Kind.TheVariants as kind
use Rattle.sc_values.specs.declared.operator.UnaryOperator.{UnaryOperator}
use Rattle.sc_values.specs.declared.operator.UnaryOperator.TheVariants as unary
use Rattle.sc_values.specs.declared.operator.BinaryOperator.{BinaryOperator}
use Rattle.sc_values.specs.declared.operator.BinaryOperator.TheVariants as binary
use Rattle.sc_values.specs.declared.operation.Operation.{Operation}
use Rattle.sc_values.specs.declared.operation.Operation.TheVariants as op
use Rattle.sc_values.specs.Limits.{operand_limit}
use Rattle.sc_values.specs.Code.{loaded}
use Rattle.sc_values.specs.Operator.{kind_of, unary_value, binary_value, unary_kind, binary_kind}

-- the kind of what an operator gives, where its operands fit
abbrev pub given_by_unary : UnaryOperator → Kind
given_by_unary unary.Not = kind.Bool
given_by_unary f = kind.Int

abbrev pub given_by_binary : BinaryOperator → Kind
given_by_binary binary.Add = kind.Int
given_by_binary binary.Subtract = kind.Int
given_by_binary binary.Multiply = kind.Int
given_by_binary binary.Min = kind.Int
given_by_binary binary.Max = kind.Int
given_by_binary f = kind.Bool

-- on top of the stack, where there is one
abbrev pub put_on : {A : Type 0} → List A → Option A → Option (List A)
put_on stack None = None
put_on stack (Some v) = Some (v ∷ stack)

-- an operation over values, where a load takes what is given; None where an operand is missing or of another kind
abbrev pub acted : Option Value → Operation → List Value → Option (List Value)
acted given (op.Literal v) stack = Some (v ∷ stack)
acted given (op.Load x) stack = put_on stack given
acted given (op.Unary f) (a ∷ stack) = put_on stack (unary_value f a)
acted given (op.Binary f) (b ∷ a ∷ stack) = put_on stack (binary_value f a b)
acted given o stack = None

-- the same over kinds
abbrev pub kind_acted : Option Kind → Operation → List Kind → Option (List Kind)
kind_acted given (op.Literal v) stack = Some (kind_of v ∷ stack)
kind_acted given (op.Load x) stack = put_on stack given
kind_acted given (op.Unary f) (a ∷ stack) = put_on stack (unary_kind f a)
kind_acted given (op.Binary f) (b ∷ a ∷ stack) = put_on stack (binary_kind f a b)
kind_acted given o stack = None

-- no more than may stand at any moment
abbrev pub within_limit : {A : Type 0} → List A → Option (List A)
within_limit stack = if nat_le (length stack) operand_limit then Some stack else None

-- a code over a stack of kinds; None where an operand is missing, of another kind or one too many
abbrev pub tested : List Kind → List Operation → List Kind → Option (List Kind)
tested kinds [] stack = Some stack
tested kinds (o ∷ code) stack = option_and_then (tested kinds code)
    (option_and_then within_limit (kind_acted (option_and_then (slice_get kinds) (loaded o)) o stack))

abbrev pub alone : List Kind → Option Kind
alone (k ∷ []) = Some k
alone stack = None

-- how many operands stand after an operation, of n before
abbrev pub height : Operation → ℕ → ℕ
height (op.Literal v) n = suc n
height (op.Load x) n = suc n
height (op.Unary f) n = n
height (op.Binary f) n = n - 1

-- what an operation takes of the operands, after n loads
abbrev pub taken : List Value → ℕ → Operation → Option Value
taken operands n (op.Load x) = slice_get operands n
taken operands n o = None

-- how many loads there were after an operation, of n before
abbrev pub loads_after : Operation → ℕ → ℕ
loads_after (op.Load x) n = suc n
loads_after o n = n

-- the kind of what the last operation of a code leaves, where the code's first load is of this kind
abbrev pub last_kind : Option Kind → Operation → Option Kind
last_kind first (op.Literal v) = Some (kind_of v)
last_kind first (op.Load x) = first
last_kind first (op.Unary f) = Some (given_by_unary f)
last_kind first (op.Binary f) = Some (given_by_binary f)
