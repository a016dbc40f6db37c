-- What the parts of an expression mean. An expression is said by its postfix order: the left operand, the right one,
-- then the operator. So it spells one tree.
use Rattle.std.specs.Prelude.{ℕ, ℤ, pos, neg_ℤ, Bool, true, false, Option, Some, None, List, [], ◌∷◌, ◌++◌}
use Rattle.sc_values.specs.declared.value.Value.TheVariants as value
use Rattle.sc_values.specs.declared.operator.UnaryOperator.TheVariants as unary
use Rattle.sc_values.specs.declared.operator.UnaryOperator.{UnaryOperator}
use Rattle.sc_values.specs.declared.operator.BinaryOperator.{BinaryOperator}
use Rattle.sc_values.specs.declared.operator.BinaryOperator.TheVariants as binary
use Rattle.sc_values.specs.declared.divisor.Divisor.{Divisor}
use Rattle.sc_values.specs.Division.{divisor_of}
use Rattle.sc_text.specs.declared.word.Word.{Word}
use Rattle.sc_text.specs.declared.word.Word.TheVariants as word
use Rattle.sc_text.specs.declared.sign.Sign.TheVariants as sign
use Rattle.sc_text.specs.declared.token.TokenKind.{TokenKind}
use Rattle.sc_text.specs.declared.token.TokenKind.TheVariants as kind
use Rattle.sc_text.specs.declared.token.Token.{Token}
use Rattle.sc_text.specs.declared.operation.TextOperation.{TextOperation}
use Rattle.sc_text.specs.declared.operation.TextOperation.TheVariants as op

abbrev pub Phrase : Type 0
Phrase = List TextOperation

-- the operator that a token writes, between its operands or before them
abbrev pub operator_of : TokenKind → BinaryOperator
operator_of (kind.Word word.Or) = binary.Or
operator_of (kind.Word word.And) = binary.And
operator_of (kind.Word word.Min) = binary.Min
operator_of (kind.Word word.Max) = binary.Max
operator_of (kind.Sign sign.Equal) = binary.Equal
operator_of (kind.Sign sign.NotEqual) = binary.NotEqual
operator_of (kind.Sign sign.Less) = binary.Less
operator_of (kind.Sign sign.LessOrEqual) = binary.LessOrEqual
operator_of (kind.Sign sign.Greater) = binary.Greater
operator_of (kind.Sign sign.GreaterOrEqual) = binary.GreaterOrEqual
operator_of (kind.Sign sign.Plus) = binary.Add
operator_of (kind.Sign sign.Minus) = binary.Subtract
operator_of (kind.Sign sign.Star) = binary.Multiply
-- no other token stands there
operator_of k = binary.Add

-- an operator with its right operand, behind the left one
abbrev pub right_side : Token → Phrase → Phrase
right_side operator right = right ++ op.Binary (operator_of operator.kind) ∷ []

abbrev pub prefixed : UnaryOperator → Phrase → Phrase
prefixed f operand = operand ++ op.Unary f ∷ []

-- one operand behind the other, each later one with its operator: so operators group to the left
abbrev pub all_of : List Phrase → Phrase
all_of [] = []
all_of (p ∷ phrases) = p ++ all_of phrases

abbrev pub none_or_it : Option Phrase → Phrase
none_or_it None = []
none_or_it (Some p) = p

abbrev pub is_true : Word → Bool
is_true word.True = true
is_true w = false

-- a name, a number or a truth value
abbrev pub leaf_of : TokenKind → ℕ → TextOperation
leaf_of (kind.Name name) at = op.Load name at
leaf_of (kind.Number n) at = op.Literal (value.Int n)
leaf_of (kind.Word w) at = op.Literal (value.Bool (is_true w))
leaf_of (kind.Sign s) at = op.Literal (value.Bool false)

abbrev pub number_of : TokenKind → ℤ
number_of (kind.Number n) = n
number_of k = pos 1

abbrev pub signed : Bool → ℤ → ℤ
signed false n = n
signed true n = neg_ℤ n

abbrev pub division_of : TokenKind → Divisor → UnaryOperator
division_of (kind.Sign sign.Slash) d = unary.Divide d
division_of (kind.Sign sign.Percent) d = unary.Remainder d
-- no other token stands there
division_of k d = unary.Divide d

abbrev pub divided : Token → Option Divisor → Phrase
divided operator None = []
divided operator (Some d) = op.Unary (division_of operator.kind d) ∷ []

abbrev pub is_there : Option Token → Bool
is_there None = false
is_there (Some minus) = true

-- by a number, which is negative where a minus stands before it
abbrev pub division : Token → Option Token → Token → Phrase
division operator minus number = divided operator (divisor_of (signed (is_there minus) (number_of number.kind)))
