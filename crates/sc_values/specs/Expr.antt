-- Expressions as trees: their value, their kind and their postfix order.
use Rattle.std.specs.Prelude.{Option, Some, List, [], ◌∷◌, ◌++◌, slice_get, option_and_then}
use Rattle.sc_values.specs.declared.value.Value.{Value}
use Rattle.sc_values.specs.declared.value.Kind.{Kind}
use Rattle.sc_values.specs.declared.operation.Operation.{Operation}
use Rattle.sc_values.specs.declared.operation.Operation.TheVariants as op
use Rattle.sc_values.specs.declared.expression.Expr.{Expr}
use Rattle.sc_values.specs.declared.expression.Expr.TheOpen.{Expr-F}
use Rattle.sc_values.specs.declared.expression.Expr.TheOpen as tree
use Rattle.sc_values.specs.declared.expression.Expr.TheFolds.{fold-Expr}
use Rattle.sc_values.specs.Operator.{kind_of, unary_value, binary_value, unary_kind, binary_kind}

-- the value of an expression over the variables' values; None where a variable is unknown or a
-- kind doesn't fit
abbrev pub value_step : Expr-F (List Value → Option Value) → List Value → Option Value
value_step (tree.Literal v) variables = Some v
value_step (tree.Load x) variables = slice_get variables x
value_step (tree.Unary f a) variables = option_and_then (unary_value f) (a variables)
value_step (tree.Binary f a b) variables = option_and_then (λ m. option_and_then (binary_value f m) (b variables))
    (a variables)

abbrev pub value : Expr → List Value → Option Value
value = fold-Expr (List Value → Option Value) value_step

-- the kind of an expression over the variables' kinds; None where it isn't well kinded
abbrev pub kind_step : Expr-F (List Kind → Option Kind) → List Kind → Option Kind
kind_step (tree.Literal v) kinds = Some (kind_of v)
kind_step (tree.Load x) kinds = slice_get kinds x
kind_step (tree.Unary f a) kinds = option_and_then (unary_kind f) (a kinds)
kind_step (tree.Binary f a b) kinds = option_and_then (λ m. option_and_then (binary_kind f m) (b kinds)) (a kinds)

abbrev pub kind : Expr → List Kind → Option Kind
kind = fold-Expr (List Kind → Option Kind) kind_step

-- left operand, right operand, operator
abbrev pub postorder_step : Expr-F (List Operation) → List Operation
postorder_step (tree.Literal v) = op.Literal v ∷ []
postorder_step (tree.Load x) = op.Load x ∷ []
postorder_step (tree.Unary f a) = a ++ op.Unary f ∷ []
postorder_step (tree.Binary f a b) = a ++ b ++ op.Binary f ∷ []

abbrev pub postorder : Expr → List Operation
postorder = fold-Expr (List Operation) postorder_step
