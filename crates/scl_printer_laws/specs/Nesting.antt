-- How deep printed expressions nest.
use Rattle.std.specs.Prelude.{IsTrue, List}
use Rattle.sc_values.specs.declared.value.Kind.{Kind}
use Rattle.sc_values.specs.declared.expression.Expr.{Expr}
use Rattle.sc_text.specs.Expression.{open_limit}
use Rattle.sc_text.specs.Parts.{IsExpression}
use Rattle.scl_printer.specs.Expressions.{opens, parentheses_of}

-- no expression of a program opens more parentheses and prefix operators at once, as it is printed, than a text may
pub record PrintedExpressionsNest : Type 0 where
  pub nest : (kinds : List Kind) (k : Kind) (e : Expr) → IsExpression kinds k e
      → IsTrue ((opens (parentheses_of e) e).at_most open_limit)
