-- The value of a code that is one operand, or one operator behind its operands.
use Rattle.std.proofs.Common.{◌≡◌, ◌<◌, ◌≤◌, List, [], ◌∷◌, length, slice_index_or, Option, Some, None, IfSome, option_and_then, sym, ap, ◌∙◌, arith}
use Rattle.sc_values.specs.declared.value.Value.{Value}
use Rattle.sc_values.specs.declared.operation.Operation.{Operation}
use Rattle.sc_values.specs.declared.operation.Operation.TheVariants as op
use Rattle.sc_values.specs.declared.operator.UnaryOperator.{UnaryOperator}
use Rattle.sc_values.specs.declared.operator.BinaryOperator.{BinaryOperator}
use Rattle.sc_values.specs.declared.expression.Expr.{Expr}
use Rattle.sc_values.specs.declared.expression.Expr.TheOpen as tree
use Rattle.sc_values.specs.declared.expression.Expr.TheViews.{roll-Expr}
use Rattle.sc_values.specs.Expr.{value}
use Rattle.sc_values.specs.Code.{code_value}
use Rattle.sc_values.specs.Operator.{unary_value, binary_value}
use Rattle.sc_values.proofs.Induction.{value-literal, value-load, value-unary, value-binary}
use Rattle.tick_core.specs.Inside.ShortCodes.{operand_value}

pub one_operand : (o : Operation) (variables : List Value) (v : Value) → operand_value o variables ≡ Some v → code_value (o ∷ []) variables ≡ Some v
one_operand (op.Literal w) variables v h = value-literal w variables ∙ h
one_operand (op.Load x) variables v h = value-load x variables ∙ h
one_operand (op.Unary f) variables v h = absurd cc
one_operand (op.Binary f) variables v h = absurd cc

unary_tree : (f : UnaryOperator) (e : Expr) (variables : List Value) (v : Value) → value e variables ≡ Some v
    → value (roll-Expr (tree.Unary f e)) variables ≡ unary_value f v
unary_tree f e variables v h = value-unary f e variables ∙ ap (option_and_then (unary_value f)) h

binary_tree : (f : BinaryOperator) (d e : Expr) (variables : List Value) (v w : Value) → value d variables ≡ Some v → value e variables ≡ Some w
    → value (roll-Expr (tree.Binary f d e)) variables ≡ binary_value f v w
binary_tree f d e variables v w g h =
    value-binary f d e variables
    ∙ (ap (option_and_then (λ m. option_and_then (binary_value f m) (value e variables))) g ∙ ap (option_and_then (binary_value f v)) h)

pub unary_of : (o : Operation) (f : UnaryOperator) (variables : List Value) (v : Value) → operand_value o variables ≡ Some v
    → code_value (o ∷ op.Unary f ∷ []) variables ≡ unary_value f v
unary_of (op.Literal w) f variables v h = unary_tree f (roll-Expr (tree.Literal w)) variables v (value-literal w variables ∙ h)
unary_of (op.Load x) f variables v h = unary_tree f (roll-Expr (tree.Load x)) variables v (value-load x variables ∙ h)
unary_of (op.Unary g) f variables v h = absurd cc
unary_of (op.Binary g) f variables v h = absurd cc

pub binary_of : (a b : Operation) (f : BinaryOperator) (variables : List Value) (v w : Value) → operand_value a variables ≡ Some v
    → operand_value b variables ≡ Some w → code_value (a ∷ b ∷ op.Binary f ∷ []) variables ≡ binary_value f v w
binary_of a (op.Unary h) f variables v w is_v is_w = absurd cc
binary_of a (op.Binary h) f variables v w is_v is_w = absurd cc
binary_of (op.Unary g) b f variables v w is_v is_w = absurd cc
binary_of (op.Binary g) b f variables v w is_v is_w = absurd cc
binary_of (op.Literal m) (op.Literal n) f variables v w is_v is_w =
    binary_tree f (roll-Expr (tree.Literal m)) (roll-Expr (tree.Literal n)) variables v w (value-literal m variables ∙ is_v) (value-literal n variables ∙ is_w)
binary_of (op.Literal m) (op.Load y) f variables v w is_v is_w =
    binary_tree f (roll-Expr (tree.Literal m)) (roll-Expr (tree.Load y)) variables v w (value-literal m variables ∙ is_v) (value-load y variables ∙ is_w)
binary_of (op.Load x) (op.Literal n) f variables v w is_v is_w =
    binary_tree f (roll-Expr (tree.Load x)) (roll-Expr (tree.Literal n)) variables v w (value-load x variables ∙ is_v) (value-literal n variables ∙ is_w)
binary_of (op.Load x) (op.Load y) f variables v w is_v is_w =
    binary_tree f (roll-Expr (tree.Load x)) (roll-Expr (tree.Load y)) variables v w (value-load x variables ∙ is_v) (value-load y variables ∙ is_w)

-- a list of so few operations, of which each place is known
pub one_at : (code : List Operation) (a : Operation) → 1 ≤ length code → length code < 2 → a ≡ slice_index_or code 0 a → code ≡ a ∷ []
one_at [] a least most is = absurd (omega (arith, least))
one_at (x ∷ []) a least most is = ap (λ z. z ∷ []) (sym is)
one_at (x ∷ y ∷ code) a least most is = absurd (omega (arith, most))

pub two_at : (code : List Operation) (a b : Operation) → 2 ≤ length code → length code < 3 → a ≡ slice_index_or code 0 a → b ≡ slice_index_or code 1 b
    → code ≡ a ∷ b ∷ []
two_at [] a b least most is_a is_b = absurd (omega (arith, least))
two_at (x ∷ []) a b least most is_a is_b = absurd (omega (arith, least))
two_at (x ∷ y ∷ []) a b least most is_a is_b = ap (λ z. z ∷ y ∷ []) (sym is_a) ∙ ap (λ z. a ∷ z ∷ []) (sym is_b)
two_at (x ∷ y ∷ z ∷ code) a b least most is_a is_b = absurd (omega (arith, most))

pub three_at : (code : List Operation) (a b o : Operation) → 3 ≤ length code → length code < 4 → a ≡ slice_index_or code 0 a → b ≡ slice_index_or code 1 b
    → o ≡ slice_index_or code 2 o → code ≡ a ∷ b ∷ o ∷ []
three_at [] a b o least most is_a is_b is_o = absurd (omega (arith, least))
three_at (x ∷ []) a b o least most is_a is_b is_o = absurd (omega (arith, least))
three_at (x ∷ y ∷ []) a b o least most is_a is_b is_o = absurd (omega (arith, least))
three_at (x ∷ y ∷ z ∷ []) a b o least most is_a is_b is_o =
    ap (λ v. v ∷ y ∷ z ∷ []) (sym is_a) ∙ (ap (λ v. a ∷ v ∷ z ∷ []) (sym is_b) ∙ ap (λ v. a ∷ b ∷ v ∷ []) (sym is_o))
three_at (x ∷ y ∷ z ∷ w ∷ code) a b o least most is_a is_b is_o = absurd (omega (arith, most))

-- what a call gives, where it gives a value
pub gives_value : (r x : Option Value) → r ≡ x → IfSome r (λ v. x ≡ Some v)
gives_value None x is = tt
gives_value (Some v) x is = sym is
