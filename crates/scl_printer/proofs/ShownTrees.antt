-- What is shown of each expression.
use Rattle.std.proofs.Common.{◌≡◌, ℕ, List, ap, sym, ◌∙◌}
use Rattle.sc_values.specs.declared.value.Value.{Value}
use Rattle.sc_values.specs.declared.operator.UnaryOperator.{UnaryOperator}
use Rattle.sc_values.specs.declared.operator.BinaryOperator.{BinaryOperator}
use Rattle.sc_values.specs.declared.expression.Expr.{Expr}
use Rattle.sc_values.specs.declared.expression.Expr.TheOpen as tree
use Rattle.sc_values.specs.declared.expression.Expr.TheVariants as expr
use Rattle.sc_values.specs.declared.expression.Expr.TheVariants.{rolls-Literal, rolls-Load, rolls-Unary, rolls-Binary}
use Rattle.sc_values.specs.declared.expression.Expr.TheFolds.{fold-roll-Expr}
use Rattle.sc_graph.specs.declared.program.Variable.{Variable}
use Rattle.scl_printer.specs.declared.parentheses.Parentheses.{Parentheses}
use Rattle.scl_printer.specs.Expressions.{Shown, shown, shown_step}

pub shown_literal : (p : Parentheses) (variables : List Variable) (v : Value) → shown p variables (expr.Literal v) ≡ shown_step p variables (tree.Literal v)
shown_literal p variables v = ap (shown p variables) (sym (rolls-Literal v)) ∙ fold-roll-Expr Shown (shown_step p variables) (tree.Literal v)

pub shown_load : (p : Parentheses) (variables : List Variable) (x : ℕ) → shown p variables (expr.Load x) ≡ shown_step p variables (tree.Load x)
shown_load p variables x = ap (shown p variables) (sym (rolls-Load x)) ∙ fold-roll-Expr Shown (shown_step p variables) (tree.Load x)

pub shown_unary : (p : Parentheses) (variables : List Variable) (f : UnaryOperator) (a : Expr)
    → shown p variables (expr.Unary f a) ≡ shown_step p variables (tree.Unary f (shown p variables a))
shown_unary p variables f a =
    ap (shown p variables) (sym (rolls-Unary f a)) ∙ fold-roll-Expr Shown (shown_step p variables) (tree.Unary f a)

pub shown_binary : (p : Parentheses) (variables : List Variable) (f : BinaryOperator) (a b : Expr)
    → shown p variables (expr.Binary f a b) ≡ shown_step p variables (tree.Binary f (shown p variables a) (shown p variables b))
shown_binary p variables f a b =
    ap (shown p variables) (sym (rolls-Binary f a b)) ∙ fold-roll-Expr Shown (shown_step p variables) (tree.Binary f a b)
