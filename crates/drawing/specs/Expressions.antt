-- How an expression is written in a drawing: in the words of chart text, with no parentheses but those without which it
-- would be another one. Each operator has a level, as the grammar has it, from `or` to a minus sign; an operand stands in
-- parentheses where its own level is too low for its place.
use Rattle.std.specs.Prelude.{ℕ, nat_lt, Bool, true, false, Option, Some, None, List, [], ◌++◌, slice_get, codes}
use Rattle.sc_values.specs.declared.operator.UnaryOperator.{UnaryOperator}
use Rattle.sc_values.specs.declared.operator.UnaryOperator.TheVariants as unary
use Rattle.sc_values.specs.declared.operator.BinaryOperator.{BinaryOperator}
use Rattle.sc_values.specs.declared.operator.BinaryOperator.TheVariants as binary
use Rattle.sc_values.specs.declared.expression.Expr.{Expr}
use Rattle.sc_values.specs.declared.expression.Expr.TheOpen.{Expr-F}
use Rattle.sc_values.specs.declared.expression.Expr.TheOpen as tree
use Rattle.sc_values.specs.declared.expression.Expr.TheFolds.{fold-Expr}
use Rattle.sc_graph.specs.declared.program.Variable.{Variable}
use Rattle.scl_printer.specs.Expressions.{value_text, prefix_text, divisor_text, opening_text, infix_text, closing_text}
use Rattle.drawing.specs.declared.symbols.Symbol.{Symbol}
use Rattle.drawing.specs.declared.symbols.Symbol.TheVariants as symbol

-- ---- levels

-- the level of a name, a value, and `min` and `max` with their parentheses: high enough for each place
abbrev pub whole : ℕ
whole = 8

abbrev pub unary_level : UnaryOperator → ℕ
unary_level unary.Not = 3
unary_level (unary.Divide d) = 6
unary_level (unary.Remainder d) = 6
unary_level unary.Negate = 7

abbrev pub binary_level : BinaryOperator → ℕ
binary_level binary.Or = 1
binary_level binary.And = 2
binary_level binary.Equal = 4
binary_level binary.NotEqual = 4
binary_level binary.Less = 4
binary_level binary.LessOrEqual = 4
binary_level binary.Greater = 4
binary_level binary.GreaterOrEqual = 4
binary_level binary.Add = 5
binary_level binary.Subtract = 5
binary_level binary.Multiply = 6
binary_level binary.Min = 8
binary_level binary.Max = 8

-- the level that the left operand must have: operators of one level group to the left, but comparisons stand in no row
abbrev pub left_level : BinaryOperator → ℕ
left_level binary.Or = 1
left_level binary.And = 2
left_level binary.Equal = 5
left_level binary.NotEqual = 5
left_level binary.Less = 5
left_level binary.LessOrEqual = 5
left_level binary.Greater = 5
left_level binary.GreaterOrEqual = 5
left_level binary.Add = 5
left_level binary.Subtract = 5
left_level binary.Multiply = 6
left_level binary.Min = 0
left_level binary.Max = 0

-- and the right one
abbrev pub right_level : BinaryOperator → ℕ
right_level binary.Or = 2
right_level binary.And = 3
right_level binary.Equal = 5
right_level binary.NotEqual = 5
right_level binary.Less = 5
right_level binary.LessOrEqual = 5
right_level binary.Greater = 5
right_level binary.GreaterOrEqual = 5
right_level binary.Add = 6
right_level binary.Subtract = 6
right_level binary.Multiply = 7
right_level binary.Min = 0
right_level binary.Max = 0

-- ---- what numbers name

-- a variable is named by its name
abbrev pub symbol_of : Variable → Symbol
symbol_of v = symbol.Named v.name

abbrev pub own_name : Option Symbol → List ℕ
own_name None = []
own_name (Some (symbol.Named name)) = name
own_name (Some (symbol.Before x)) = []

abbrev pub named_text : List Symbol → Option Symbol → List ℕ
named_text symbols None = []
named_text symbols (Some (symbol.Named name)) = name
named_text symbols (Some (symbol.Before x)) = codes "pre(" ++ (own_name (slice_get symbols x) ++ codes ")")

-- what has this number
abbrev pub symbol_text : List Symbol → ℕ → List ℕ
symbol_text symbols x = named_text symbols (slice_get symbols x)

-- ---- texts

-- an expression as it is written, and its level
pub record Written : Type 0 where
  pub text : List ℕ
  pub level : ℕ

abbrev pub enclosed_if : Bool → List ℕ → List ℕ
enclosed_if true text = codes "(" ++ (text ++ codes ")")
enclosed_if false text = text

-- an operand where this level is needed
abbrev pub operand : (least : ℕ) → Written → List ℕ
operand least e = enclosed_if (nat_lt e.level least) e.text

abbrev pub written_step : List Symbol → Expr-F Written → Written
written_step symbols (tree.Literal v) = record { text = value_text v; level = whole }
written_step symbols (tree.Load x) = record { text = symbol_text symbols x; level = whole }
written_step symbols (tree.Unary f a) =
    record { text = prefix_text f ++ (operand (unary_level f) a ++ divisor_text f); level = unary_level f }
written_step symbols (tree.Binary f a b) =
    record {
      text = opening_text f
          ++ (operand (left_level f) a ++ (infix_text f ++ (operand (right_level f) b ++ closing_text f)));
      level = binary_level f;
    }

abbrev pub written : List Symbol → Expr → Written
written symbols = fold-Expr Written (written_step symbols)

abbrev pub sparing_text : List Symbol → Expr → List ℕ
sparing_text symbols e = (written symbols e).text
