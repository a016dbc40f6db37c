-- Induction over expressions, and what their meanings say at each form.
use Rattle.std.proofs.Common.{◌≡◌, ℕ, Option, Some, List, [], ◌∷◌, ◌++◌, option_and_then, slice_get, subst, ap}
use Rattle.sc_values.specs.declared.value.Value.{Value}
use Rattle.sc_values.specs.declared.value.Kind.{Kind}
use Rattle.sc_values.specs.declared.operator.UnaryOperator.{UnaryOperator}
use Rattle.sc_values.specs.declared.operator.BinaryOperator.{BinaryOperator}
use Rattle.sc_values.specs.declared.operation.Operation.{Operation}
use Rattle.sc_values.specs.declared.operation.Operation.TheVariants as op
use Rattle.sc_values.specs.declared.expression.Expr.{Expr}
use Rattle.sc_values.specs.declared.expression.Expr.TheOpen.{Expr-F}
use Rattle.sc_values.specs.declared.expression.Expr.TheOpen as tree
use Rattle.sc_values.specs.declared.expression.Expr.TheViews.{roll-Expr}
use Rattle.sc_values.specs.declared.expression.Expr.TheFolds.{fold-roll-Expr, ind-Expr, map-Expr}
use Rattle.sc_values.specs.Operator.{kind_of, unary_value, binary_value, unary_kind, binary_kind}
use Rattle.sc_values.specs.Expr.{value, value_step, kind, kind_step, postorder, postorder_step}

-- a law of expressions: it holds of each form whose operands keep it
pub record Inductive (P : Expr → Type 0) : Type 0 where
  pub of_literal : (v : Value) → P (roll-Expr (tree.Literal v))
  pub of_load : (x : ℕ) → P (roll-Expr (tree.Load x))
  pub of_unary : (f : UnaryOperator) (a : Expr) → P a → P (roll-Expr (tree.Unary f a))
  pub of_binary : (f : BinaryOperator) (a b : Expr) → P a → P b → P (roll-Expr (tree.Binary f a b))

abbrev With : (P : Expr → Type 0) → Type 0
With P = (e : Expr) × P e

at_layer : (P : Expr → Type 0) → Inductive P → (y : Expr-F (With P)) → P (roll-Expr (map-Expr (With P) Expr (λ e. e.0) y))
at_layer P cases (tree.Literal v) = cases.of_literal v
at_layer P cases (tree.Load x) = cases.of_load x
at_layer P cases (tree.Unary f a) = cases.of_unary f a.0 a.1
at_layer P cases (tree.Binary f a b) = cases.of_binary f a.0 b.0 a.1 b.1

pub induct : (P : Expr → Type 0) → Inductive P → (e : Expr) → P e
induct P cases = ind-Expr P (λ x y is. let Q : Expr-F Expr → Type 0 = λ z. P (roll-Expr z) in subst Q is (at_layer P cases y))

pub postorder-literal : (v : Value) → postorder (roll-Expr (tree.Literal v)) ≡ op.Literal v ∷ []
postorder-literal v = fold-roll-Expr (List Operation) postorder_step (tree.Literal v)

pub postorder-load : (x : ℕ) → postorder (roll-Expr (tree.Load x)) ≡ op.Load x ∷ []
postorder-load x = fold-roll-Expr (List Operation) postorder_step (tree.Load x)

pub postorder-unary : (f : UnaryOperator) (a : Expr) → postorder (roll-Expr (tree.Unary f a)) ≡ postorder a ++ op.Unary f ∷ []
postorder-unary f a = fold-roll-Expr (List Operation) postorder_step (tree.Unary f a)

pub postorder-binary : (f : BinaryOperator) (a b : Expr) → postorder (roll-Expr (tree.Binary f a b)) ≡ postorder a ++ postorder b ++ op.Binary f ∷ []
postorder-binary f a b = fold-roll-Expr (List Operation) postorder_step (tree.Binary f a b)

pub value-literal : (v : Value) (variables : List Value) → value (roll-Expr (tree.Literal v)) variables ≡ Some v
value-literal v variables = ap (λ (m : List Value → Option Value). m variables) (fold-roll-Expr (List Value → Option Value) value_step (tree.Literal v))

pub value-load : (x : ℕ) (variables : List Value) → value (roll-Expr (tree.Load x)) variables ≡ slice_get variables x
value-load x variables = ap (λ (m : List Value → Option Value). m variables) (fold-roll-Expr (List Value → Option Value) value_step (tree.Load x))

pub value-unary : (f : UnaryOperator) (a : Expr) (variables : List Value) → value (roll-Expr (tree.Unary f a)) variables
    ≡ option_and_then (unary_value f) (value a variables)
value-unary f a variables = ap (λ (m : List Value → Option Value). m variables) (fold-roll-Expr (List Value → Option Value) value_step (tree.Unary f a))

pub value-binary : (f : BinaryOperator) (a b : Expr) (variables : List Value) → value (roll-Expr (tree.Binary f a b)) variables
    ≡ option_and_then (λ m. option_and_then (binary_value f m) (value b variables)) (value a variables)
value-binary f a b variables = ap (λ (m : List Value → Option Value). m variables) (fold-roll-Expr (List Value → Option Value) value_step (tree.Binary f a b))

pub kind-literal : (v : Value) (kinds : List Kind) → kind (roll-Expr (tree.Literal v)) kinds ≡ Some (kind_of v)
kind-literal v kinds = ap (λ (m : List Kind → Option Kind). m kinds) (fold-roll-Expr (List Kind → Option Kind) kind_step (tree.Literal v))

pub kind-load : (x : ℕ) (kinds : List Kind) → kind (roll-Expr (tree.Load x)) kinds ≡ slice_get kinds x
kind-load x kinds = ap (λ (m : List Kind → Option Kind). m kinds) (fold-roll-Expr (List Kind → Option Kind) kind_step (tree.Load x))

pub kind-unary : (f : UnaryOperator) (a : Expr) (kinds : List Kind) → kind (roll-Expr (tree.Unary f a)) kinds ≡ option_and_then (unary_kind f) (kind a kinds)
kind-unary f a kinds = ap (λ (m : List Kind → Option Kind). m kinds) (fold-roll-Expr (List Kind → Option Kind) kind_step (tree.Unary f a))

pub kind-binary : (f : BinaryOperator) (a b : Expr) (kinds : List Kind) → kind (roll-Expr (tree.Binary f a b)) kinds
    ≡ option_and_then (λ m. option_and_then (binary_kind f m) (kind b kinds)) (kind a kinds)
kind-binary f a b kinds = ap (λ (m : List Kind → Option Kind). m kinds) (fold-roll-Expr (List Kind → Option Kind) kind_step (tree.Binary f a b))
