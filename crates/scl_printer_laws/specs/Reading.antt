-- Which expressions a text can write, and what it means that a text reads as one.
use Rattle.std.specs.Prelude.{ℕ, ◌≡◌, ◌≤◌, pos, negsuc, IsTrue, Some, unsigned_abs, List, map, slice_get}
use Rattle.grammar.specs.Grammar.{spells}
use Rattle.sc_values.specs.Name.{is_name}
use Rattle.sc_values.specs.declared.value.Value.{Value}
use Rattle.sc_values.specs.declared.value.Value.TheVariants as value
use Rattle.sc_values.specs.declared.value.Kind.{Kind}
use Rattle.sc_values.specs.declared.operator.UnaryOperator.{UnaryOperator}
use Rattle.sc_values.specs.declared.operator.UnaryOperator.TheVariants as unary
use Rattle.sc_values.specs.declared.operator.BinaryOperator.{BinaryOperator}
use Rattle.sc_values.specs.declared.expression.Expr.{Expr}
use Rattle.sc_values.specs.declared.expression.Expr.TheOpen as tree
use Rattle.sc_values.specs.declared.expression.Expr.TheViews.{roll-Expr}
use Rattle.sc_values.specs.Expr.{postorder}
use Rattle.sc_graph.specs.declared.program.Variable.{Variable}
use Rattle.sc_text.specs.declared.language.Language.TheVariants as language
use Rattle.sc_text.specs.declared.token.Token.{Token}
use Rattle.sc_text.specs.Tokens.{AreTokens, IsReserved, number_limit}
use Rattle.sc_text.specs.Parts.{IsExpression}
use Rattle.sc_text.specs.Phrases.{Phrase}
use Rattle.sc_text.specs.Expression.{expression}
use Rattle.sc_text.specs.Flaws.{place_among}
use Rattle.sc_text.specs.Resolved.{code_of}
use Rattle.scl_printer.specs.Expressions.{expression_text}

abbrev pub names_of : List Variable → List (List ℕ)
names_of variables = map (λ x. x.name) variables

-- no negative number, and none that is too large
abbrev pub CanWriteLiteral : Value → Type 0
CanWriteLiteral (value.Bool b) = Unit {0}
CanWriteLiteral (value.Int (pos n)) = n ≤ number_limit
CanWriteLiteral (value.Int (negsuc n)) = ⊥

abbrev pub CanWriteOperator : UnaryOperator → Type 0
CanWriteOperator (unary.Divide d) = unsigned_abs d.number ≤ number_limit
CanWriteOperator (unary.Remainder d) = unsigned_abs d.number ≤ number_limit
CanWriteOperator f = Unit {0}

-- the variable has a name of SCL, and is the first of that name
pub record CanWriteVariable (variables : List Variable) (x : ℕ) : Type 0 where
  pub variable : Variable
  pub stands : slice_get variables x ≡ Some variable
  pub named : IsTrue (is_name variable.name)
  pub free : ¬ IsReserved variable.name
  pub first : place_among (names_of variables) variable.name ≡ Some x

-- a text can write the expression over these variables
pub data CanWrite (variables : List Variable) : Expr → Type 0 where
  a_literal : (v : Value) → CanWriteLiteral v → CanWrite variables (roll-Expr (tree.Literal v))
  a_load : (x : ℕ) → CanWriteVariable variables x → CanWrite variables (roll-Expr (tree.Load x))
  a_unary : (f : UnaryOperator) (a : Expr) → CanWriteOperator f → CanWrite variables a
      → CanWrite variables (roll-Expr (tree.Unary f a))
  a_binary : (f : BinaryOperator) (a b : Expr) → CanWrite variables a → CanWrite variables b
      → CanWrite variables (roll-Expr (tree.Binary f a b))

-- the text is cut into tokens, which spell the expression
pub record ReadsAs (variables : List Variable) (text : List ℕ) (e : Expr) : Type 0 where
  pub tokens : List Token
  pub cut : AreTokens language.Scl 0 text tokens
  pub phrase : Phrase
  pub spelled : spells (expression 0) tokens phrase
  pub means : code_of (names_of variables) phrase ≡ postorder e

-- what is printed of an expression reads as that expression
pub record PrintedExpressionsAreRead : Type 0 where
  pub read : (variables : List Variable) (kinds : List Kind) (k : Kind) (e : Expr) → IsExpression kinds k e → CanWrite variables e
      → ReadsAs variables (expression_text variables e) e
