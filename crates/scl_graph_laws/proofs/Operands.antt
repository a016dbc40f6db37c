-- What the node of an assignment loads are variables that there are, where its expression has a kind.
use Rattle.std.proofs.Common.{◌≡◌, ℕ, zero, suc, ◌<◌, ◌&&◌, Bool, true, false, not, Option, Some, None, List, [], ◌∷◌, length, map, option_and_then, unwrap_or}
use Rattle.std.proofs.Common.{if◌then◌else◌, All, refl, sym, ap, subst, ◌∙◌, arith}
use Rattle.std.proofs.lemmas.Option.{none-some, slice_get_within}
use Rattle.std.proofs.lemmas.List.{length-map}
use Rattle.sc_values.specs.declared.value.Kind.{Kind}
use Rattle.sc_values.specs.declared.value.Kind.TheVariants as kind_is
use Rattle.sc_values.specs.declared.operator.BinaryOperator.{BinaryOperator}
use Rattle.sc_values.specs.declared.operator.BinaryOperator.TheVariants as binary
use Rattle.sc_values.specs.declared.operator.UnaryOperator.TheVariants as unary
use Rattle.sc_values.specs.declared.expression.Expr.{Expr}
use Rattle.sc_values.specs.declared.expression.Expr.TheOpen.{Expr-F}
use Rattle.sc_values.specs.declared.expression.Expr.TheOpen as tree
use Rattle.sc_values.specs.declared.expression.Expr.TheViews.{out-Expr}
use Rattle.sc_values.specs.declared.expression.Expr.TheFolds.{fold_out-Expr, map-Expr}
use Rattle.sc_values.specs.Operator.{binary_kind, unary_kind}
use Rattle.sc_values.specs.Expr.{kind, kind_step, postorder}
use Rattle.sc_values.specs.Code.{loads}
use Rattle.sc_values.specs.Assignment.{Inits, operand, is_read, is_variable, combination_of, assignment_of, assignment_of_root}
use Rattle.sc_values.proofs.Induction.{kind-unary}
use Rattle.sc_values.proofs.Numbering.{Known, kinded_known}
use Rattle.sc_graph.specs.declared.program.Variable.{Variable}

-- it has some kind
abbrev pub HasKind : List Kind → Expr → Type 0
HasKind kinds e = (k : Kind) × (kind e kinds ≡ Some k)

-- both operands of an operator have kinds of which it makes this one
pub record Operands (f : BinaryOperator) (first second : Option Kind) (k : Kind) : Type 0 where
  pub left : Kind
  pub right : Kind
  pub is_left : first ≡ Some left
  pub is_right : second ≡ Some right
  pub gives : binary_kind f left right ≡ Some k

pub operands_of : (f : BinaryOperator) (o p : Option Kind) (k : Kind) → option_and_then (λ m. option_and_then (binary_kind f m) p) o ≡ Some k → Operands f o p k
operands_of f None p k h = absurd (none-some k h)
operands_of f (Some m) None k h = absurd (none-some k h)
operands_of f (Some m) (Some n) k h = record { left = m; right = n; is_left = refl; is_right = refl; gives = h }

subtracts : (m n k : Kind) → binary_kind binary.Subtract m n ≡ Some k → (r : Kind) × (unary_kind unary.Negate n ≡ Some r)
subtracts kind_is.Int kind_is.Int k h = (kind_is.Int, refl)
subtracts kind_is.Bool kind_is.Bool k h = absurd (none-some k h)
subtracts kind_is.Bool kind_is.Int k h = absurd (none-some k h)
subtracts kind_is.Int kind_is.Bool k h = absurd (none-some k h)

module _ (kinds : List Kind) where
  with_operator : (f : BinaryOperator) (a b e : Expr) → (h : HasKind kinds e) → Operands f (kind a kinds) (kind b kinds) h.0
      → HasKind kinds (operand (unwrap_or (combination_of f b) (Inits e)))
  with_operator binary.Add a b e h ops = (ops.right, ops.is_right)
  with_operator binary.Subtract a b e h ops =
      let r : (r : Kind) × (unary_kind unary.Negate ops.right ≡ Some r) = subtracts ops.left ops.right h.0 ops.gives in
      (r.0, kind-unary unary.Negate b kinds ∙ ap (option_and_then (unary_kind unary.Negate)) ops.is_right ∙ r.1)
  with_operator binary.Multiply a b e h ops = (ops.right, ops.is_right)
  with_operator binary.Min a b e h ops = (ops.right, ops.is_right)
  with_operator binary.Max a b e h ops = (ops.right, ops.is_right)
  with_operator binary.And a b e h ops = (ops.right, ops.is_right)
  with_operator binary.Or a b e h ops = (ops.right, ops.is_right)
  with_operator binary.Equal a b e h ops = h
  with_operator binary.NotEqual a b e h ops = h
  with_operator binary.Less a b e h ops = h
  with_operator binary.LessOrEqual a b e h ops = h
  with_operator binary.Greater a b e h ops = h
  with_operator binary.GreaterOrEqual a b e h ops = h

  pub kind_of_binary : (e : Expr) (f : BinaryOperator) (a b : Expr) → out-Expr e ≡ tree.Binary f a b
      → kind e kinds ≡ option_and_then (λ m. option_and_then (binary_kind f m) (kind b kinds)) (kind a kinds)
  kind_of_binary e f a b is =
      ap (λ (m : List Kind → Option Kind). m kinds) (fold_out-Expr (List Kind → Option Kind) kind_step e)
      ∙ ap (λ y. kind_step (map-Expr Expr (List Kind → Option Kind) kind y) kinds) is

  by_root : (x : ℕ) (e : Expr) (y : Expr-F Expr) → out-Expr e ≡ y → HasKind kinds e → HasKind kinds (operand (assignment_of_root x e y))
  by_root x e (tree.Literal v) is h = h
  by_root x e (tree.Load z) is h = h
  by_root x e (tree.Unary f a) is h = h
  by_root x e (tree.Binary f a b) is h = at (is_variable x (out-Expr a) && not (is_read x b))
    where
      at : (c : Bool) → HasKind kinds (operand (if c then unwrap_or (combination_of f b) (Inits e) else Inits e))
      at true = with_operator f a b e h (operands_of f (kind a kinds) (kind b kinds) h.0 (sym (kind_of_binary e f a b is) ∙ h.1))
      at false = h

  -- the expression of which an assignment needs the value has a kind
  pub operand_kinded : (x : ℕ) (e : Expr) → HasKind kinds e → HasKind kinds (operand (assignment_of x e))
  operand_kinded x e h = by_root x e (out-Expr e) refl h

all_more : (P : ℕ → Type 0) (x : ℕ) (xs : List ℕ) → P x → All P xs → All P (x ∷ xs)
all_more P x xs h all zero d lt = h
all_more P x xs h all (suc k) d lt = all k d (omega (arith, lt))

-- variables that are there have numbers within
known_within : (variables : List Variable) (xs : List ℕ) → Known (map (λ v. v.kind) variables) xs → All (λ x. x < length variables) xs
known_within variables [] h = λ k d lt. absurd (omega (arith, lt))
known_within variables (x ∷ xs) h =
    let within : x < length (map (λ v. v.kind) variables) = slice_get_within (map (λ v. v.kind) variables) x h.0.0 h.0.1 in
    all_more (λ x. x < length variables) x xs (subst (λ n. x < n) (length-map variables (λ v. v.kind)) within) (known_within variables xs h.1)

pub loads_within : (variables : List Variable) (e : Expr) → HasKind (map (λ v. v.kind) variables) e → All (λ x. x < length variables) (loads (postorder e))
loads_within variables e h = known_within variables (loads (postorder e)) (kinded_known e (map (λ v. v.kind) variables) h.0 h.1)
