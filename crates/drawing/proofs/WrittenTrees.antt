-- What is written of each expression.
use Rattle.std.proofs.Common.{◌≡◌, ℕ, List, ap, sym, ◌∙◌}
use Rattle.sc_values.specs.declared.value.Value.{Value}
use Rattle.sc_values.specs.declared.operator.UnaryOperator.{UnaryOperator}
use Rattle.sc_values.specs.declared.operator.BinaryOperator.{BinaryOperator}
use Rattle.sc_values.specs.declared.expression.Expr.{Expr}
use Rattle.sc_values.specs.declared.expression.Expr.TheOpen as tree
use Rattle.sc_values.specs.declared.expression.Expr.TheVariants as expr
use Rattle.sc_values.specs.declared.expression.Expr.TheVariants.{rolls-Literal, rolls-Load, rolls-Unary, rolls-Binary}
use Rattle.sc_values.specs.declared.expression.Expr.TheFolds.{fold-roll-Expr}
use Rattle.drawing.specs.declared.symbols.Symbol.{Symbol}
use Rattle.drawing.specs.Expressions.{Written, written, written_step}

pub written_literal : (symbols : List Symbol) (v : Value) → written symbols (expr.Literal v) ≡ written_step symbols (tree.Literal v)
written_literal symbols v = ap (written symbols) (sym (rolls-Literal v)) ∙ fold-roll-Expr Written (written_step symbols) (tree.Literal v)

pub written_load : (symbols : List Symbol) (x : ℕ) → written symbols (expr.Load x) ≡ written_step symbols (tree.Load x)
written_load symbols x = ap (written symbols) (sym (rolls-Load x)) ∙ fold-roll-Expr Written (written_step symbols) (tree.Load x)

pub written_unary : (symbols : List Symbol) (f : UnaryOperator) (a : Expr)
    → written symbols (expr.Unary f a) ≡ written_step symbols (tree.Unary f (written symbols a))
written_unary symbols f a =
    ap (written symbols) (sym (rolls-Unary f a)) ∙ fold-roll-Expr Written (written_step symbols) (tree.Unary f a)

pub written_binary : (symbols : List Symbol) (f : BinaryOperator) (a b : Expr)
    → written symbols (expr.Binary f a b) ≡ written_step symbols (tree.Binary f (written symbols a) (written symbols b))
written_binary symbols f a b =
    ap (written symbols) (sym (rolls-Binary f a b)) ∙ fold-roll-Expr Written (written_step symbols) (tree.Binary f a b)
