-- What an expression opens in print, by its form.
use Rattle.std.proofs.Common.{◌≡◌, ℕ}
use Rattle.sc_values.specs.declared.value.Value.{Value}
use Rattle.sc_values.specs.declared.operator.UnaryOperator.{UnaryOperator}
use Rattle.sc_values.specs.declared.operator.BinaryOperator.{BinaryOperator}
use Rattle.sc_values.specs.declared.expression.Expr.{Expr}
use Rattle.sc_values.specs.declared.expression.Expr.TheOpen as tree
use Rattle.sc_values.specs.declared.expression.Expr.TheViews.{roll-Expr}
use Rattle.sc_values.specs.declared.expression.Expr.TheFolds.{fold-roll-Expr}
use Rattle.scl_printer.specs.declared.parentheses.Parentheses.{Parentheses}
use Rattle.scl_printer.specs.Expressions.{Opens, opens, opens_step}

module _ (p : Parentheses) where
  pub opens_literal : (v : Value) → opens p (roll-Expr (tree.Literal v)) ≡ opens_step p (tree.Literal v)
  opens_literal v = fold-roll-Expr Opens (opens_step p) (tree.Literal v)

  pub opens_load : (x : ℕ) → opens p (roll-Expr (tree.Load x)) ≡ opens_step p (tree.Load x)
  opens_load x = fold-roll-Expr Opens (opens_step p) (tree.Load x)

  pub opens_unary : (f : UnaryOperator) (a : Expr) → opens p (roll-Expr (tree.Unary f a)) ≡ opens_step p (tree.Unary f (opens p a))
  opens_unary f a = fold-roll-Expr Opens (opens_step p) (tree.Unary f a)

  pub opens_binary : (f : BinaryOperator) (a b : Expr) → opens p (roll-Expr (tree.Binary f a b)) ≡ opens_step p (tree.Binary f (opens p a) (opens p b))
  opens_binary f a b = fold-roll-Expr Opens (opens_step p) (tree.Binary f a b)
