-- Which variables an expression reads, by its tree.
use Rattle.std.specs.Prelude.{ℕ, Bool, false, ◌||◌, nat_eq}
use Rattle.sc_values.specs.declared.expression.Expr.{Expr}
use Rattle.sc_values.specs.declared.expression.Expr.TheOpen.{Expr-F}
use Rattle.sc_values.specs.declared.expression.Expr.TheOpen as tree
use Rattle.sc_values.specs.declared.expression.Expr.TheFolds.{fold-Expr}

abbrev pub names_step : ℕ → Expr-F Bool → Bool
names_step x (tree.Literal v) = false
names_step x (tree.Load y) = nat_eq x y
names_step x (tree.Unary f a) = a
names_step x (tree.Binary f a b) = a || b

-- whether a variable stands in an expression
abbrev pub names : ℕ → Expr → Bool
names x = fold-Expr Bool (names_step x)
