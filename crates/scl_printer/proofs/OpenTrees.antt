-- What each expression opens.
use Rattle.std.proofs.Common.{◌≡◌, ℕ, ap, sym, ◌∙◌}
use Rattle.sc_values.specs.declared.value.Value.{Value}
use Rattle.sc_values.specs.declared.operator.UnaryOperator.{UnaryOperator}
use Rattle.sc_values.specs.declared.operator.BinaryOperator.{BinaryOperator}
use Rattle.sc_values.specs.declared.expression.Expr.{Expr}
use Rattle.sc_values.specs.declared.expression.Expr.TheOpen as tree
use Rattle.sc_values.specs.declared.expression.Expr.TheVariants as expr
use Rattle.sc_values.specs.declared.expression.Expr.TheVariants.{rolls-Literal, rolls-Load, rolls-Unary, rolls-Binary}
use Rattle.sc_values.specs.declared.expression.Expr.TheFolds.{fold-roll-Expr}
use Rattle.scl_printer.specs.declared.parentheses.Parentheses.{Parentheses}
use Rattle.scl_printer.specs.Expressions.{Opens, opens, opens_step}

pub opens_literal : (p : Parentheses) (v : Value) → opens p (expr.Literal v) ≡ opens_step p (tree.Literal v)
opens_literal p v = ap (opens p) (sym (rolls-Literal v)) ∙ fold-roll-Expr Opens (opens_step p) (tree.Literal v)

pub opens_load : (p : Parentheses) (x : ℕ) → opens p (expr.Load x) ≡ opens_step p (tree.Load x)
opens_load p x = ap (opens p) (sym (rolls-Load x)) ∙ fold-roll-Expr Opens (opens_step p) (tree.Load x)

pub opens_unary : (p : Parentheses) (f : UnaryOperator) (a : Expr) → opens p (expr.Unary f a) ≡ opens_step p (tree.Unary f (opens p a))
opens_unary p f a = ap (opens p) (sym (rolls-Unary f a)) ∙ fold-roll-Expr Opens (opens_step p) (tree.Unary f a)

pub opens_binary : (p : Parentheses) (f : BinaryOperator) (a b : Expr) → opens p (expr.Binary f a b) ≡ opens_step p (tree.Binary f (opens p a) (opens p b))
opens_binary p f a b = ap (opens p) (sym (rolls-Binary f a b)) ∙ fold-roll-Expr Opens (opens_step p) (tree.Binary f a b)
