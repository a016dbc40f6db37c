-- Expressions over some variables are expressions over more; those that expansion makes are expressions.
use Rattle.std.proofs.Common.{◌≡◌, ℕ, Bool, ◌&&◌, pos, zero, suc, ◌≤◌, Option, Some, None, List, [], ◌∷◌, ◌++◌, length, take, slice_get, option_and_then, refl}
use Rattle.std.proofs.Common.{ap, sym, subst, ◌∙◌, arith}
use Rattle.sc_values.specs.declared.value.Value.{Value}
use Rattle.sc_values.specs.declared.value.Value.TheVariants as value
use Rattle.sc_values.specs.declared.value.Kind.{Kind}
use Rattle.sc_values.specs.declared.value.Kind.TheVariants as of_kind
use Rattle.sc_values.specs.declared.operator.BinaryOperator.{BinaryOperator}
use Rattle.sc_values.specs.declared.operator.UnaryOperator.{UnaryOperator}
use Rattle.sc_values.specs.declared.operation.Operation.{Operation}
use Rattle.sc_values.specs.declared.operation.Operation.TheVariants as op
use Rattle.sc_values.specs.declared.expression.Expr.{Expr}
use Rattle.sc_values.specs.declared.expression.Expr.TheOpen as tree
use Rattle.sc_values.specs.declared.expression.Expr.TheViews.{roll-Expr}
use Rattle.sc_values.specs.declared.expression.Expr.TheVariants as expr
use Rattle.sc_values.specs.declared.expression.Expr.TheVariants.{rolls-Literal, rolls-Load, rolls-Binary}
use Rattle.sc_values.specs.declared.expression.Expr.TheFolds.{fold-roll-Expr}
use Rattle.sc_values.specs.Operator.{unary_kind, binary_kind}
use Rattle.sc_values.specs.Expr.{kind, postorder}
use Rattle.sc_values.specs.Code.{IsWithinLimits, trees}
use Rattle.sc_values.proofs.Induction.{induct, kind-literal, kind-load, kind-unary, kind-binary, postorder-literal, postorder-load, postorder-binary}
use Rattle.sc_text.specs.Parts.{IsExpression, is_writable, writable_step}
use Rattle.abort_expansion.specs.Transitions.{number}
use Rattle.abort_expansion.proofs.Lists.{at_front}

-- ---- more variables

record Got {A B : Type 0} (g : A → Option B) (o : Option A) (b : B) : Type 0 where
  item : A
  is : o ≡ Some item
  gives : g item ≡ Some b

got : {A B : Type 0} (g : A → Option B) (o : Option A) (b : B) → option_and_then g o ≡ Some b → Got g o b
got g (Some a) b h = record { item = a; is = refl; gives = h }
got g None b h = absurd cc

abbrev Grows : List Kind → Expr → Type 0
Grows more e = (kinds : List Kind) (k : Kind) → kind e kinds ≡ Some k → kind e (kinds ++ more) ≡ Some k

grows_unary : (more : List Kind) (f : UnaryOperator) (a : Expr) → Grows more a → Grows more (roll-Expr (tree.Unary f a))
grows_unary more f a h kinds k is =
    let inner : Got (unary_kind f) (kind a kinds) k = got (unary_kind f) (kind a kinds) k (sym (kind-unary f a kinds) ∙ is) in
    kind-unary f a (kinds ++ more) ∙ ap (option_and_then (unary_kind f)) (h kinds inner.item inner.is) ∙ inner.gives

grows_binary : (more : List Kind) (f : BinaryOperator) (a b : Expr) → Grows more a → Grows more b → Grows more (roll-Expr (tree.Binary f a b))
grows_binary more f a b h g kinds k is =
    let Left : List Kind → Kind → Option Kind = λ ks m. option_and_then (binary_kind f m) (kind b ks) in
    let left : Got (Left kinds) (kind a kinds) k = got (Left kinds) (kind a kinds) k (sym (kind-binary f a b kinds) ∙ is) in
    let right : Got (binary_kind f left.item) (kind b kinds) k = got (binary_kind f left.item) (kind b kinds) k left.gives in
    kind-binary f a b (kinds ++ more)
    ∙ ap (option_and_then (Left (kinds ++ more))) (h kinds left.item left.is)
    ∙ ap (option_and_then (binary_kind f left.item)) (g kinds right.item right.is)
    ∙ right.gives

grows : (more : List Kind) (e : Expr) → Grows more e
grows more = induct (Grows more) (record {
  of_literal = λ v kinds k is. kind-literal v (kinds ++ more) ∙ sym (kind-literal v kinds) ∙ is;
  of_load = λ x kinds k is. kind-load x (kinds ++ more) ∙ at_front kinds more x k (sym (kind-load x kinds) ∙ is);
  of_unary = λ f a h. grows_unary more f a h;
  of_binary = λ f a b h g. grows_binary more f a b h g;
})

pub expression_over_more : (kinds more : List Kind) (k : Kind) (e : Expr) → IsExpression kinds k e → IsExpression (kinds ++ more) k e
expression_over_more kinds more k e h = record { kinded = grows more e kinds k h.kinded; within = h.within; writable = h.writable }

-- ---- what expansion makes

one_operand : (v : Value) (n : ℕ) (stack : List Expr) → trees (take n (op.Literal v ∷ [])) [] ≡ Some stack → length stack ≤ 16
one_operand v zero stack at = let is : [] ≡ stack = cc in omega (arith, ap length is)
one_operand v (suc zero) stack at = let is : roll-Expr (tree.Literal v) ∷ [] ≡ stack = cc in omega (arith, ap length is)
one_operand v (suc (suc n)) stack at = let is : roll-Expr (tree.Literal v) ∷ [] ≡ stack = cc in omega (arith, ap length is)

one_operation : (v : Value) → IsWithinLimits (op.Literal v ∷ [])
one_operation v = record { operations = omega arith; operands = one_operand v; loaded = omega arith }

pub number_is_expression : (kinds : List Kind) (n : ℕ) → IsExpression kinds of_kind.Int (number n)
number_is_expression kinds n = record {
  kinded = ap (λ e. kind e kinds) (sym (rolls-Literal (value.Int (pos n)))) ∙ kind-literal (value.Int (pos n)) kinds;
  within = subst IsWithinLimits (sym (ap postorder (sym (rolls-Literal (value.Int (pos n)))) ∙ postorder-literal (value.Int (pos n))))
      (one_operation (value.Int (pos n)));
  writable = ap is_writable (sym (rolls-Literal (value.Int (pos n)))) ∙ fold-roll-Expr Bool writable_step (tree.Literal (value.Int (pos n)));
}

abbrev three : BinaryOperator → ℕ → Value → List Operation
three f x v = op.Load x ∷ op.Literal v ∷ op.Binary f ∷ []

few_operands : (f : BinaryOperator) (x : ℕ) (v : Value) (n : ℕ) (stack : List Expr) → trees (take n (three f x v)) [] ≡ Some stack → length stack ≤ 16
few_operands f x v zero stack at = let is : [] ≡ stack = cc in omega (arith, ap length is)
few_operands f x v (suc zero) stack at = let is : roll-Expr (tree.Load x) ∷ [] ≡ stack = cc in omega (arith, ap length is)
few_operands f x v (suc (suc zero)) stack at = let is : roll-Expr (tree.Literal v) ∷ roll-Expr (tree.Load x) ∷ [] ≡ stack = cc in omega (arith, ap length is)
few_operands f x v (suc (suc (suc zero))) stack at =
    let is : roll-Expr (tree.Binary f (roll-Expr (tree.Load x)) (roll-Expr (tree.Literal v))) ∷ [] ≡ stack = cc in omega (arith, ap length is)
few_operands f x v (suc (suc (suc (suc n)))) stack at =
    let is : roll-Expr (tree.Binary f (roll-Expr (tree.Load x)) (roll-Expr (tree.Literal v))) ∷ [] ≡ stack = cc in omega (arith, ap length is)

three_within : (f : BinaryOperator) (x : ℕ) (v : Value) → IsWithinLimits (three f x v)
three_within f x v = record { operations = omega arith; operands = few_operands f x v; loaded = omega arith }

rolled : (f : BinaryOperator) (x n : ℕ)
    → roll-Expr (tree.Binary f (roll-Expr (tree.Load x)) (roll-Expr (tree.Literal (value.Int (pos n))))) ≡ expr.Binary f (expr.Load x) (number n)
rolled f x n =
    ap (λ a. roll-Expr (tree.Binary f a (roll-Expr (tree.Literal (value.Int (pos n)))))) (rolls-Load x)
    ∙ ap (λ b. roll-Expr (tree.Binary f (expr.Load x) b)) (rolls-Literal (value.Int (pos n)))
    ∙ rolls-Binary f (expr.Load x) (number n)

-- a variable of whole numbers beside a number
pub beside_number : (kinds : List Kind) (f : BinaryOperator) (k : Kind) (x n : ℕ) → slice_get kinds x ≡ Some of_kind.Int
    → binary_kind f of_kind.Int of_kind.Int ≡ Some k → IsExpression kinds k (expr.Binary f (expr.Load x) (number n))
beside_number kinds f k x n int gives =
    let load : Expr = roll-Expr (tree.Load x) in
    let literal : Expr = roll-Expr (tree.Literal (value.Int (pos n))) in
    subst (IsExpression kinds k) (rolled f x n)
    (record {
      kinded =
          kind-binary f load literal kinds
          ∙ ap (option_and_then (λ m. option_and_then (binary_kind f m) (kind literal kinds))) (kind-load x kinds ∙ int)
          ∙ ap (option_and_then (binary_kind f of_kind.Int)) (kind-literal (value.Int (pos n)) kinds)
          ∙ gives;
      within =
          subst IsWithinLimits
          (sym (postorder-binary f load literal ∙ ap (λ a. a ++ postorder literal ++ op.Binary f ∷ []) (postorder-load x)
          ∙ ap (λ b. op.Load x ∷ (b ++ op.Binary f ∷ [])) (postorder-literal (value.Int (pos n)))))
          (three_within f x (value.Int (pos n)));
      writable =
          fold-roll-Expr Bool writable_step (tree.Binary f load literal)
          ∙ ap (λ a. a && is_writable literal) (fold-roll-Expr Bool writable_step (tree.Load x))
          ∙ fold-roll-Expr Bool writable_step (tree.Literal (value.Int (pos n)));
    })
