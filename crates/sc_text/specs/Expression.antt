-- The grammar of expressions.
--
--   expression  = conjunction { "or" conjunction }
--   conjunction = negation { "and" negation }
--   negation    = "not" negation | comparison
--   comparison  = sum [ ("==" | "!=" | "<" | "<=" | ">" | ">=") sum ]
--   sum         = product { ("+" | "-") product }
--   product     = unary { "*" unary | ("/" | "%") divisor }
--   divisor     = [ "-" ] number above 0
--   unary       = "-" unary | atom
--   atom        = number | "true" | "false" | name | "(" expression ")"
--               | ("min" | "max") "(" expression "," expression ")"
use Rattle.std.specs.Prelude.{ℕ, zero, suc, ◌+◌, Option, List, [], ◌∷◌, ◌++◌}
use Rattle.grammar.specs.Grammar.{Tokens, Grammar, one, seq, either, maybe, many, made, barred}
use Rattle.sc_values.specs.declared.operator.UnaryOperator.{UnaryOperator}
use Rattle.sc_values.specs.declared.operator.UnaryOperator.TheVariants as unary_operator
use Rattle.sc_text.specs.declared.word.Word.TheVariants as word
use Rattle.sc_text.specs.declared.sign.Sign.TheVariants as sign
use Rattle.sc_text.specs.declared.token.Token.{Token}
use Rattle.sc_text.specs.Classes.{Class, AName, Zero, Number, TheWord, TheSign, class_of, same_class, sample_kind, class_same, sampled}
use Rattle.sc_text.specs.Phrases.{Phrase, right_side, prefixed, all_of, none_or_it, leaf_of, division}

abbrev pub text_tokens : Tokens
text_tokens = record {
  Token = Token;
  Class = Class;
  class = λ t. class_of t.kind;
  same = same_class;
  same_is = class_same;
  sample = λ c. record { kind = sample_kind c; at = 0 };
  sample_is = sampled;
}

-- a phrase behind a token of these classes, and one before it
abbrev pub after : {A : Type 0} → List Class → Grammar text_tokens A → Grammar text_tokens A
after classes g = made (λ x. x.1) (seq (one classes) g)

abbrev pub before : {A : Type 0} → Grammar text_tokens A → List Class → Grammar text_tokens A
before g classes = made (λ x. x.0) (seq g (one classes))

-- operator operand
abbrev pub right : List Class → Grammar text_tokens Phrase → Grammar text_tokens Phrase
right operators operand = made (λ x. right_side x.0 x.1) (seq (one operators) operand)

-- operand { operator operand }
abbrev pub chain : Grammar text_tokens Phrase → Grammar text_tokens Phrase → Grammar text_tokens Phrase
chain operand more = made (λ x. x.0 ++ all_of x.1) (seq operand (many more))

abbrev pub prefix : Class → UnaryOperator → Grammar text_tokens Phrase → Grammar text_tokens Phrase
prefix operator f operand = made (prefixed f) (after (operator ∷ []) operand)

-- what stands within one more parenthesis or prefix operator: nothing, where no more of them may be open
pub data Inner : Type 1 where
  NoMore : Inner
  Nested : (whole negated signed : Grammar text_tokens Phrase) → Inner

abbrev pub comparisons : List Class
comparisons =
    TheSign sign.Equal ∷ TheSign sign.NotEqual ∷ TheSign sign.Less ∷ TheSign sign.LessOrEqual ∷ TheSign sign.Greater
    ∷ TheSign sign.GreaterOrEqual ∷ []

unfoldable pub leaf : Grammar text_tokens Phrase
leaf =
    made (λ t. leaf_of t.kind t.at ∷ [])
    (one (AName ∷ Zero ∷ Number ∷ TheWord word.True ∷ TheWord word.False ∷ []))

unfoldable pub parenthesized : Grammar text_tokens Phrase → Grammar text_tokens Phrase
parenthesized e = after (TheSign sign.OpenParenthesis ∷ []) (before e (TheSign sign.CloseParenthesis ∷ []))

unfoldable pub operands : Grammar text_tokens Phrase → Grammar text_tokens Phrase
operands e =
    made (λ x. x.0 ++ x.1)
    (seq (after (TheSign sign.OpenParenthesis ∷ []) (before e (TheSign sign.Comma ∷ [])))
    (before e (TheSign sign.CloseParenthesis ∷ [])))

unfoldable pub call : Grammar text_tokens Phrase → Grammar text_tokens Phrase
call e = right (TheWord word.Min ∷ TheWord word.Max ∷ []) (operands e)

unfoldable pub atom : Inner → Grammar text_tokens Phrase
atom NoMore = barred (TheSign sign.OpenParenthesis ∷ TheWord word.Min ∷ TheWord word.Max ∷ []) leaf
atom (Nested whole negated signed) = either (either (parenthesized whole) (call whole)) leaf

unfoldable pub unary : Inner → Grammar text_tokens Phrase
unary NoMore = barred (TheSign sign.Minus ∷ []) (atom NoMore)
unary (Nested whole negated signed) =
    either (prefix (TheSign sign.Minus) unary_operator.Negate signed) (atom (Nested whole negated signed))

unfoldable pub divisor : Grammar text_tokens (Option Token × Token)
divisor = seq (maybe (one (TheSign sign.Minus ∷ []))) (one (Number ∷ []))

unfoldable pub quotient : Grammar text_tokens Phrase
quotient =
    made (λ x. division x.0 x.1.0 x.1.1) (seq (one (TheSign sign.Slash ∷ TheSign sign.Percent ∷ [])) divisor)

unfoldable pub factor : Inner → Grammar text_tokens Phrase
factor inner = either (right (TheSign sign.Star ∷ []) (unary inner)) quotient

unfoldable pub product : Inner → Grammar text_tokens Phrase
product inner = chain (unary inner) (factor inner)

unfoldable pub sum : Inner → Grammar text_tokens Phrase
sum inner = chain (product inner) (right (TheSign sign.Plus ∷ TheSign sign.Minus ∷ []) (product inner))

unfoldable pub comparison : Inner → Grammar text_tokens Phrase
comparison inner = made (λ x. x.0 ++ none_or_it x.1) (seq (sum inner) (maybe (right comparisons (sum inner))))

unfoldable pub negation : Inner → Grammar text_tokens Phrase
negation NoMore = barred (TheWord word.Not ∷ []) (comparison NoMore)
negation (Nested whole negated signed) =
    either (prefix (TheWord word.Not) unary_operator.Not negated) (comparison (Nested whole negated signed))

unfoldable pub conjunction : Inner → Grammar text_tokens Phrase
conjunction inner = chain (negation inner) (right (TheWord word.And ∷ []) (negation inner))

unfoldable pub disjunction : Inner → Grammar text_tokens Phrase
disjunction inner = chain (conjunction inner) (right (TheWord word.Or ∷ []) (conjunction inner))

-- with so many parentheses and prefix operators open at once
unfoldable pub within : ℕ → Inner
within zero = NoMore
within (suc n) = Nested (disjunction (within n)) (negation (within n)) (unary (within n))

-- the parentheses and prefix operators that may be open at once
abbrev pub open_limit : ℕ
open_limit = 64

-- an expression, where k more of them may be open
unfoldable pub expression : ℕ → Grammar text_tokens Phrase
expression k = disjunction (within (open_limit + k))
