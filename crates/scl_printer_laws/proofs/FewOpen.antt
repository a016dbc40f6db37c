-- With few parentheses, an expression opens fewer of them and of prefix operators at once than it has operations.
use Rattle.std.proofs.Common.{◌≡◌, ℕ, zero, suc, ◌+◌, ◌≤◌, Bool, true, false, ◌&&◌, Option, Some, None, List, [], ◌∷◌, ◌++◌, length, option_and_then}
use Rattle.std.proofs.Common.{refl, sym, ap, subst, ◌∙◌, if◌then◌else◌, arith, length-append}
use Rattle.sc_values.specs.declared.value.Value.{Value}
use Rattle.sc_values.specs.declared.value.Kind.{Kind}
use Rattle.sc_values.specs.declared.value.Kind.TheVariants as kind_is
use Rattle.sc_values.specs.declared.operator.UnaryOperator.{UnaryOperator}
use Rattle.sc_values.specs.declared.operator.UnaryOperator.TheVariants as unary
use Rattle.sc_values.specs.declared.operator.BinaryOperator.{BinaryOperator}
use Rattle.sc_values.specs.declared.operator.BinaryOperator.TheVariants as binary
use Rattle.sc_values.specs.declared.operation.Operation.TheVariants as op
use Rattle.sc_values.specs.declared.expression.Expr.{Expr}
use Rattle.sc_values.specs.declared.expression.Expr.TheOpen.{Expr-F}
use Rattle.sc_values.specs.declared.expression.Expr.TheOpen as tree
use Rattle.sc_values.specs.declared.expression.Expr.TheViews.{roll-Expr}
use Rattle.sc_values.specs.Operator.{unary_kind, binary_kind}
use Rattle.sc_values.specs.Expr.{kind, postorder}
use Rattle.sc_values.proofs.Induction.{induct, postorder-literal, postorder-load, postorder-unary, postorder-binary, kind-unary, kind-binary}
use Rattle.sc_text.specs.Expression.{open_limit}
use Rattle.sc_text.specs.Parts.{IsExpression}
use Rattle.scl_printer.specs.declared.parentheses.Parentheses.TheVariants as parentheses
use Rattle.scl_printer.specs.declared.parentheses.Form.{Form}
use Rattle.scl_printer.specs.declared.parentheses.Form.TheVariants as form
use Rattle.scl_printer.specs.Expressions.{Opens, opens, opens_step, operand_opens, parentheses_of}
use Rattle.scl_printer_laws.proofs.Forms.{opens_literal, opens_load, opens_unary, opens_binary}

abbrev size : Expr → ℕ
size e = length (postorder e)

abbrev few : Expr → Opens
few = opens parentheses.Few

-- an operation between or behind its operands opens fewer than it has operations, and one less where it stands in parentheses
abbrev IsTight : Form → (ℕ → Bool) → ℕ → Type 0
IsTight form.Infix at_most s = (2 ≤ s) × ((n : ℕ) → s ≤ suc (suc n) → at_most n ≡ true)
IsTight f at_most s = (n : ℕ) → s ≤ suc n → at_most n ≡ true

-- `not` stands before a truth value
abbrev IsTrueNot : Form → Kind → Type 0
IsTrueNot form.Not k = k ≡ kind_is.Bool
IsTrueNot f k = Unit {0}

pub record Fits (k : Kind) (o : Opens) (s : ℕ) : Type 0 where
  pub some : 1 ≤ s
  pub tight : IsTight o.form o.at_most s
  pub truth : IsTrueNot o.form k

-- as an operand: of an operator within which something more is counted, or which takes no truth value
weak_by : (t : Bool) (f : Form) (at_most : ℕ → Bool) (k : Kind) (s n : ℕ) → 1 ≤ s → IsTight f at_most s → s ≤ n
    → operand_opens parentheses.Few t (record { form = f; at_most = at_most }) n ≡ true
weak_by t form.Whole at_most k s n some tight le = tight n (omega (arith, le))
weak_by t form.Minus at_most k s n some tight le = tight n (omega (arith, le))
weak_by true form.Not at_most k s n some tight le = tight n (omega (arith, le))
weak_by false form.Not at_most k s zero some tight le = absurd (omega (arith, some, le))
weak_by false form.Not at_most k s (suc n) some tight le = tight n le
weak_by t form.Infix at_most k s zero some tight le = absurd (omega (arith, some, le))
weak_by t form.Infix at_most k s (suc n) some tight le = tight.1 n (omega (arith, le))

abbrev takes : Bool → Kind → Type 0
takes true k = Unit {0}
takes false k = k ≡ kind_is.Int

strong_by : (t : Bool) (f : Form) (at_most : ℕ → Bool) (k : Kind) (s n : ℕ) → IsTight f at_most s → IsTrueNot f k → takes t k → s ≤ suc n
    → operand_opens parentheses.Few t (record { form = f; at_most = at_most }) n ≡ true
strong_by t form.Whole at_most k s n tight truth fits le = tight n le
strong_by t form.Minus at_most k s n tight truth fits le = tight n le
strong_by true form.Not at_most k s n tight truth fits le = tight n le
strong_by false form.Not at_most k s n tight truth fits le =
    let both : kind_is.Bool ≡ kind_is.Int = sym truth ∙ fits in absurd (cc)
strong_by t form.Infix at_most k s zero tight truth fits le = absurd (let two = tight.0 in omega (arith, two, le))
strong_by t form.Infix at_most k s (suc n) tight truth fits le = tight.1 n le

weak : (t : Bool) (k : Kind) (o : Opens) (s n : ℕ) → Fits k o s → s ≤ n → operand_opens parentheses.Few t o n ≡ true
weak t k o s n h le = weak_by t o.form o.at_most k s n h.some h.tight le

strong : (t : Bool) (k : Kind) (o : Opens) (s n : ℕ) → Fits k o s → takes t k → s ≤ suc n → operand_opens parentheses.Few t o n ≡ true
strong t k o s n h fits le = strong_by t o.form o.at_most k s n h.tight h.truth fits le

abbrev step : Expr-F Opens → Opens
step = opens_step parentheses.Few

both_true : (a b : Bool) → a ≡ true → b ≡ true → a && b ≡ true
both_true a b e f = ap (λ x. x && b) e ∙ f

-- ---- operators

prefixed : (t : Bool) (k : Kind) (o : Opens) (s n : ℕ) → Fits k o s → takes t k → suc s ≤ suc n
    → (at_most : ℕ → Bool) → ((m : ℕ) → at_most (suc m) ≡ operand_opens parentheses.Few t o m) → at_most n ≡ true
prefixed t k o s zero h fits le at_most is = absurd (let some = h.some in omega (arith, some, le))
prefixed t k o s (suc n) h fits le at_most is = is n ∙ strong t k o s n h fits (omega (arith, le))

unary_fits : (f : UnaryOperator) (a k : Kind) (o : Opens) (s : ℕ) → unary_kind f a ≡ Some k → Fits a o s → Fits k (step (tree.Unary f o)) (s + 1)
unary_fits unary.Negate kind_is.Int k o s e h =
    record {
      some = omega arith;
      tight = λ n le. prefixed false kind_is.Int o s n h refl (omega (arith, le)) (step (tree.Unary unary.Negate o)).at_most
          (λ m. refl);
      truth = tt;
    }
unary_fits unary.Negate kind_is.Bool k o s e h = absurd (cc)
unary_fits unary.Not kind_is.Bool k o s e h =
    record {
      some = omega arith;
      tight = λ n le. prefixed true kind_is.Bool o s n h tt (omega (arith, le)) (step (tree.Unary unary.Not o)).at_most
          (λ m. refl);
      truth = let b : kind_is.Bool ≡ k = cc in sym b;
    }
unary_fits unary.Not kind_is.Int k o s e h = absurd (cc)
unary_fits (unary.Divide d) kind_is.Int k o s e h =
    record {
      some = omega arith;
      tight = (
        let some = h.some in omega (arith, some),
        λ n le. strong false kind_is.Int o s n h refl (omega
            (arith, le)),
      );
      truth = tt;
    }
unary_fits (unary.Divide d) kind_is.Bool k o s e h = absurd (cc)
unary_fits (unary.Remainder d) kind_is.Int k o s e h =
    record {
      some = omega arith;
      tight = (
        let some = h.some in omega (arith, some),
        λ n le. strong false kind_is.Int o s n h refl (omega
            (arith, le)),
      );
      truth = tt;
    }
unary_fits (unary.Remainder d) kind_is.Bool k o s e h = absurd (cc)

module _ (a b k : Kind) (o u : Opens) (s r : ℕ) (h : Fits a o s) (i : Fits b u r) where
  between : (t : Bool) (n : ℕ) → s + (r + 1) ≤ suc (suc n) → operand_opens parentheses.Few t o n && operand_opens parentheses.Few t u n ≡ true
  between t n le =
      let left = h.some in
      let right = i.some in
      both_true _ _ (weak t a o s n h (omega (arith, left, right, le))) (weak t b u r n i (omega (arith, left, right, le)))

  infix_fits : (t : Bool)
      → Fits k (record { form = form.Infix; at_most = λ n. operand_opens parentheses.Few t o n && operand_opens parentheses.Few t u n }) (s + (r + 1))
  infix_fits t =
      let left = h.some in
      let right = i.some in
      record { some = omega arith; tight = (omega (arith, left, right), between t); truth = tt }

  called : (at_most : ℕ → Bool) → ((m : ℕ) → at_most (suc m) ≡ (operand_opens parentheses.Few false o m && operand_opens parentheses.Few false u m))
      → (n : ℕ) → s + (r + 1) ≤ suc n → at_most n ≡ true
  called at_most is zero le = let left = h.some in let right = i.some in absurd (omega (arith, left, right, le))
  called at_most is (suc n) le = is n ∙ between false n le

  binary_fits : (f : BinaryOperator) → Fits k (step (tree.Binary f o u)) (s + (r + 1))
  binary_fits binary.Add = infix_fits false
  binary_fits binary.Subtract = infix_fits false
  binary_fits binary.Multiply = infix_fits false
  binary_fits binary.Min = record { some = omega arith; tight = called (step (tree.Binary binary.Min o u)).at_most (λ m. refl); truth = tt }
  binary_fits binary.Max = record { some = omega arith; tight = called (step (tree.Binary binary.Max o u)).at_most (λ m. refl); truth = tt }
  binary_fits binary.And = infix_fits true
  binary_fits binary.Or = infix_fits true
  binary_fits binary.Equal = infix_fits false
  binary_fits binary.NotEqual = infix_fits false
  binary_fits binary.Less = infix_fits false
  binary_fits binary.LessOrEqual = infix_fits false
  binary_fits binary.Greater = infix_fits false
  binary_fits binary.GreaterOrEqual = infix_fits false

-- ---- each expression

some_kind : {B : Type 0} (o : Option Kind) (f : Kind → Option B) (k : B) → option_and_then f o ≡ Some k → (a : Kind) × (o ≡ Some a) × (f a ≡ Some k)
some_kind None f k e = absurd (cc)
some_kind (Some a) f k e = (a, refl, e)

module _ (kinds : List Kind) where
  abbrev P : Expr → Type 0
  P e = (k : Kind) → kind e kinds ≡ Some k → Fits k (few e) (size e)

  of_unary : (f : UnaryOperator) (a : Expr) → P a → P (roll-Expr (tree.Unary f a))
  of_unary f a h k e =
      let inner = some_kind (kind a kinds) (unary_kind f) k (sym (kind-unary f a kinds) ∙ e) in
      let long : size (roll-Expr (tree.Unary f a)) ≡ size a + 1 = ap length (postorder-unary f a) ∙ length-append (postorder a) (op.Unary f ∷ []) in
      subst (Fits k (few (roll-Expr (tree.Unary f a)))) (sym long)
      (subst (λ o. Fits k o (size a + 1)) (sym (opens_unary parentheses.Few f a)) (unary_fits f inner.0 k (few a) (size a) inner.2 (h inner.0 inner.1)))

  of_binary : (f : BinaryOperator) (a b : Expr) → P a → P b → P (roll-Expr (tree.Binary f a b))
  of_binary f a b h i k e =
      let left = some_kind (kind a kinds) (λ m. option_and_then (binary_kind f m) (kind b kinds)) k (sym (kind-binary f a b kinds) ∙ e) in
      let right = some_kind (kind b kinds) (binary_kind f left.0) k left.2 in
      let sum : size a + size b + 1 ≡ size a + (size b + 1) = omega arith in
      let long : size (roll-Expr (tree.Binary f a b)) ≡ size a + (size b + 1) =
      ap length (postorder-binary f a b)
      ∙ length-append (postorder a ++ postorder b) (op.Binary f ∷ [])
      ∙ ap (λ n. n + 1) (length-append (postorder a) (postorder b))
      ∙ sum in
      subst (Fits k (few (roll-Expr (tree.Binary f a b)))) (sym long)
      (subst (λ o. Fits k o (size a + (size b + 1))) (sym (opens_binary parentheses.Few f a b))
      (binary_fits left.0 right.0 k (few a) (few b) (size a) (size b) (h left.0 left.1) (i right.0 right.1) f))

  one_fits : (k : Kind) → Fits k (record { form = form.Whole; at_most = λ n. true }) 1
  one_fits k = record { some = omega arith; tight = λ n le. refl; truth = tt }

  of_literal : (v : Value) → P (roll-Expr (tree.Literal v))
  of_literal v k e =
      subst (Fits k (few (roll-Expr (tree.Literal v)))) (sym (ap length (postorder-literal v)))
      (subst (λ o. Fits k o 1) (sym (opens_literal parentheses.Few v)) (one_fits k))

  of_load : (x : ℕ) → P (roll-Expr (tree.Load x))
  of_load x k e =
      subst (Fits k (few (roll-Expr (tree.Load x)))) (sym (ap length (postorder-load x)))
      (subst (λ o. Fits k o 1) (sym (opens_load parentheses.Few x)) (one_fits k))

  each_fits : (e : Expr) → P e
  each_fits = induct P (record { of_literal = of_literal; of_load = of_load; of_unary = of_unary; of_binary = of_binary })

less_open : (f : Form) (at_most : ℕ → Bool) (s n : ℕ) → IsTight f at_most s → s ≤ suc n → at_most n ≡ true
less_open form.Whole at_most s n tight le = tight n le
less_open form.Minus at_most s n tight le = tight n le
less_open form.Not at_most s n tight le = tight n le
less_open form.Infix at_most s n tight le = tight.1 n (omega (arith, le))

-- of a printed expression no more are open than a text may open
by_test : (e : Expr) (b : Bool) → (opens parentheses.Each e).at_most open_limit ≡ b → (few e).at_most open_limit ≡ true
    → (opens (if b then parentheses.Each else parentheses.Few) e).at_most open_limit ≡ true
by_test e true is fits = is
by_test e false is fits = fits

pub nest : (kinds : List Kind) (k : Kind) (e : Expr) → IsExpression kinds k e → (opens (parentheses_of e) e).at_most open_limit ≡ true
nest kinds k e h =
    let fits = each_fits kinds e k h.kinded in
    let short = h.within.operations in
    by_test e ((opens parentheses.Each e).at_most open_limit) refl (less_open (few e).form (few e).at_most (size e) open_limit fits.tight (omega
    (arith, short)))
