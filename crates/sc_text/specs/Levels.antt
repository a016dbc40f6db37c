-- What private functions that read expressions say of the levels of infix operators. No public contract rests on it.
use Rattle.std.specs.Prelude.{ℕ, ℤ, pos, ◌<ℤ◌, ◌≡◌, Bool, IsTrue, Option, Some, List, [], ◌∷◌, ◌++◌}
use Rattle.sc_values.specs.declared.divisor.Divisor.{Divisor}
use Rattle.sc_values.specs.declared.operator.BinaryOperator.{BinaryOperator}
use Rattle.sc_values.specs.Division.{divisor_of}
use Rattle.grammar.specs.Predictive.{first}
use Rattle.grammar.specs.Read.{Outcome, Got, next, starts, read, read_each}
use Rattle.grammar.specs.Grammar.{Grammar}
use Rattle.sc_text.specs.declared.word.Word.TheVariants as word
use Rattle.sc_text.specs.declared.sign.Sign.TheVariants as sign
use Rattle.sc_text.specs.declared.operation.TextOperation.{TextOperation}
use Rattle.sc_text.specs.declared.level.Level.{Level}
use Rattle.sc_text.specs.declared.level.Level.TheVariants as level
use Rattle.sc_text.specs.Classes.{Class, AName, Zero, Number, TheWord, TheSign, class_of, same_class}
use Rattle.sc_text.specs.declared.token.Token.{Token}
use Rattle.sc_text.specs.declared.token.TokenKind.{TokenKind}
use Rattle.sc_text.specs.Phrases.{Phrase, all_of, operator_of, number_of, signed, is_there}
use Rattle.sc_text.specs.Expression.{text_tokens, right, Inner, unary, factor, product, sum, negation, conjunction, disjunction}

-- the operators of the level that take an operand on either side
abbrev pub operators : Level → List Class
operators level.Disjunction = TheWord word.Or ∷ []
operators level.Conjunction = TheWord word.And ∷ []
operators level.Sum = TheSign sign.Plus ∷ TheSign sign.Minus ∷ []
operators level.Product = TheSign sign.Star ∷ []

-- what stands on either side of them
abbrev pub operand : Level → Inner → Grammar text_tokens Phrase
operand level.Disjunction inner = conjunction inner
operand level.Conjunction inner = negation inner
operand level.Sum inner = product inner
operand level.Product inner = unary inner

-- what may stand behind an operand
abbrev pub behind_operand : Level → Inner → Grammar text_tokens Phrase
behind_operand level.Product inner = factor inner
behind_operand l inner = right (operators l) (operand l inner)

abbrev pub divisions : List Class
divisions = TheSign sign.Slash ∷ TheSign sign.Percent ∷ []

abbrev pub begins_behind : Level → List Class
begins_behind level.Product = TheSign sign.Star ∷ divisions
begins_behind l = operators l

-- the functions of two operands
abbrev pub calls : List Class
calls = TheWord word.Min ∷ TheWord word.Max ∷ []

abbrev pub leaves : List Class
leaves = AName ∷ Zero ∷ Number ∷ TheWord word.True ∷ TheWord word.False ∷ []

-- the tokens by which an atom opens one more parenthesis
abbrev pub enclosing : List Class
enclosing = TheSign sign.OpenParenthesis ∷ calls

-- all operands of the level
abbrev pub whole : Level → Inner → Grammar text_tokens Phrase
whole level.Disjunction inner = disjunction inner
whole level.Conjunction inner = conjunction inner
whole level.Sum inner = sum inner
whole level.Product inner = product inner

-- the operators of the level that take no operand of the level on their right side
abbrev pub quotients : Level → List Class
quotients level.Product = divisions
quotients l = []

-- a token was read, and this is the operator that it writes
pub record TakesOperator (o : Outcome Token Token) (operator : BinaryOperator) (rest : List Token) : Type 0 where
  pub token : Token
  pub is : o ≡ Got token rest
  pub writes : operator ≡ operator_of token.kind

-- a number above 0 was read, and with this sign it is the divisor
pub record TakesNumber (o : Outcome Token Token) (negative : Bool) (d : Divisor) (rest : List Token) : Type 0 where
  pub token : Token
  pub is : o ≡ Got token rest
  pub divides : divisor_of (signed negative (number_of token.kind)) ≡ Some d

pub record TakesDivisor (o : Outcome Token (Option Token × Token)) (d : Divisor) (rest : List Token) : Type 0 where
  pub minus : Option Token
  pub token : Token
  pub is : o ≡ Got (minus, token) rest
  pub divides : divisor_of (signed (is_there minus) (number_of token.kind)) ≡ Some d

-- a number above 0
pub record IsAbove (kind : TokenKind) (n : ℤ) : Type 0 where
  pub is : IsTrue (same_class Number (class_of kind))
  pub value : n ≡ number_of kind
  pub above : pos 0 <ℤ n

-- some operands of the level were read, and their operations stand behind the old ones; so many more may follow
pub record IsGoing (o : Outcome Token Phrase) (old new : List TextOperation) (l : Level) (inner : Inner) (left : ℕ)
    (rest : List Token) : Type 0 where
  pub done : Phrase
  pub is : o ≡ next (read_each (starts text_tokens (first (behind_operand l inner)))
      (read (behind_operand l inner)) left rest)
      (λ xs end. Got (done ++ all_of xs) end)
  pub behind : new ≡ old ++ done
