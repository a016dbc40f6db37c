-- The kind of a well-formed code is that of what its last operation leaves.
use Rattle.std.proofs.Common.{◌≡◌, ◌-◌, Some, List, [], ◌∷◌, ◌++◌, option_and_then, slice_get, length, refl, sym, ap, ◌∙◌, subst, arith, length-append}
use Rattle.std.specs.List.{cons_option}
use Rattle.sc_values.specs.declared.value.Kind.{Kind}
use Rattle.sc_values.specs.declared.value.Kind.TheVariants as kind_is
use Rattle.sc_values.specs.declared.operator.UnaryOperator.{UnaryOperator}
use Rattle.sc_values.specs.declared.operator.UnaryOperator.TheVariants as unary
use Rattle.sc_values.specs.declared.operator.BinaryOperator.{BinaryOperator}
use Rattle.sc_values.specs.declared.operator.BinaryOperator.TheVariants as binary
use Rattle.sc_values.specs.declared.operation.Operation.{Operation}
use Rattle.sc_values.specs.declared.operation.Operation.TheVariants as op
use Rattle.sc_values.specs.declared.expression.Expr.{Expr}
use Rattle.sc_values.specs.Operator.{unary_kind, binary_kind}
use Rattle.sc_values.specs.Inside.Stack.{given_by_unary, given_by_binary, last_kind}
use Rattle.sc_values.specs.Expr.{kind, postorder}
use Rattle.sc_values.specs.Checked.{Checked, Checks, loaded_from}
use Rattle.sc_values.proofs.Induction.{induct, postorder-literal, postorder-load, postorder-unary, postorder-binary, kind-literal, kind-load, kind-unary}
use Rattle.sc_values.proofs.Induction.{kind-binary}
use Rattle.sc_values.proofs.Running.{given}

unary_is : (f : UnaryOperator) (a k : Kind) → unary_kind f a ≡ Some k → given_by_unary f ≡ k
unary_is unary.Negate kind_is.Int k is = cc
unary_is unary.Negate kind_is.Bool k is = absurd cc
unary_is (unary.Divide d) kind_is.Int k is = cc
unary_is (unary.Divide d) kind_is.Bool k is = absurd cc
unary_is (unary.Remainder d) kind_is.Int k is = cc
unary_is (unary.Remainder d) kind_is.Bool k is = absurd cc
unary_is unary.Not kind_is.Bool k is = cc
unary_is unary.Not kind_is.Int k is = absurd cc

binary_is : (f : BinaryOperator) (a b k : Kind) → binary_kind f a b ≡ Some k → given_by_binary f ≡ k
binary_is binary.Add kind_is.Int kind_is.Int k is = cc
binary_is binary.Subtract kind_is.Int kind_is.Int k is = cc
binary_is binary.Multiply kind_is.Int kind_is.Int k is = cc
binary_is binary.Min kind_is.Int kind_is.Int k is = cc
binary_is binary.Max kind_is.Int kind_is.Int k is = cc
binary_is binary.And kind_is.Int kind_is.Int k is = absurd cc
binary_is binary.Or kind_is.Int kind_is.Int k is = absurd cc
binary_is binary.Equal kind_is.Int kind_is.Int k is = cc
binary_is binary.NotEqual kind_is.Int kind_is.Int k is = cc
binary_is binary.Less kind_is.Int kind_is.Int k is = cc
binary_is binary.LessOrEqual kind_is.Int kind_is.Int k is = cc
binary_is binary.Greater kind_is.Int kind_is.Int k is = cc
binary_is binary.GreaterOrEqual kind_is.Int kind_is.Int k is = cc
binary_is binary.Add kind_is.Bool kind_is.Bool k is = absurd cc
binary_is binary.Subtract kind_is.Bool kind_is.Bool k is = absurd cc
binary_is binary.Multiply kind_is.Bool kind_is.Bool k is = absurd cc
binary_is binary.Min kind_is.Bool kind_is.Bool k is = absurd cc
binary_is binary.Max kind_is.Bool kind_is.Bool k is = absurd cc
binary_is binary.And kind_is.Bool kind_is.Bool k is = cc
binary_is binary.Or kind_is.Bool kind_is.Bool k is = cc
binary_is binary.Equal kind_is.Bool kind_is.Bool k is = cc
binary_is binary.NotEqual kind_is.Bool kind_is.Bool k is = cc
binary_is binary.Less kind_is.Bool kind_is.Bool k is = absurd cc
binary_is binary.LessOrEqual kind_is.Bool kind_is.Bool k is = absurd cc
binary_is binary.Greater kind_is.Bool kind_is.Bool k is = absurd cc
binary_is binary.GreaterOrEqual kind_is.Bool kind_is.Bool k is = absurd cc
binary_is f kind_is.Int kind_is.Bool k is = absurd cc
binary_is f kind_is.Bool kind_is.Int k is = absurd cc

-- how a code ends
pub record Ends (kinds : List Kind) (code : List Operation) (k : Kind) : Type 0 where
  pub front : List Operation
  pub last : Operation
  pub is : code ≡ front ++ last ∷ []
  pub gives : last_kind (slice_get (loaded_from kinds code) 0) last ≡ Some k

abbrev EndsIn : Expr → Type 0
EndsIn e = (kinds : List Kind) (k : Kind) → kind e kinds ≡ Some k → Ends kinds (postorder e) k

pub ends : (e : Expr) → EndsIn e
ends = induct EndsIn (record {
  of_literal = λ v kinds k is. record { front = []; last = op.Literal v; is = postorder-literal v; gives = sym (kind-literal v kinds) ∙ is };
  of_load = λ x kinds k is.
      let here : slice_get kinds x ≡ Some k = sym (kind-load x kinds) ∙ is in
      record {
        front = [];
        last = op.Load x;
        is = postorder-load x;
        gives = ap (λ c. slice_get (loaded_from kinds c) 0) (postorder-load x) ∙ ap (λ o. slice_get (cons_option o []) 0) here;
      };
  of_unary = λ f a left kinds k is.
      let g = given (unary_kind f) (kind a kinds) k (sym (kind-unary f a kinds) ∙ is) in
      record { front = postorder a; last = op.Unary f; is = postorder-unary f a; gives = ap Some (unary_is f g.operand k g.gives) };
  of_binary = λ f a b left right kinds k is.
      let g = given (λ m. option_and_then (binary_kind f m) (kind b kinds)) (kind a kinds) k (sym (kind-binary f a b kinds) ∙ is) in
      let h = given (binary_kind f g.operand) (kind b kinds) k g.gives in
      record {
        front = postorder a ++ postorder b;
        last = op.Binary f;
        is = postorder-binary f a b;
        gives = ap Some (binary_is f g.operand h.operand k h.gives);
      };
})

at_end : (front : List Operation) (o : Operation) → slice_get (front ++ o ∷ []) (length (front ++ o ∷ []) - 1) ≡ Some o
at_end front o =
    let e : length (front ++ o ∷ []) - 1 ≡ length front = omega (arith, length-append front (o ∷ [])) in
    ap (slice_get (front ++ o ∷ [])) e ∙ behind front
  where
    behind : (xs : List Operation) → slice_get (xs ++ o ∷ []) (length xs) ≡ Some o
    behind [] = refl
    behind (x ∷ xs) = behind xs

-- the last operation of a checked code leaves the code's kind
pub checked_ends : (kinds : List Kind) (checked : Checked) (checks : Checks kinds checked.operations checked)
    → option_and_then (last_kind (slice_get checked.loads 0)) (slice_get checked.operations (length checked.operations - 1)) ≡ Some checks.formed.gives
checked_ends kinds checked checks =
    let code = checked.operations in
    let formed = checks.formed in
    let P : List Operation → Type 0 = λ c. Ends kinds c formed.gives in
    let end = subst P formed.spells (ends formed.spelt kinds formed.gives formed.kinded) in
    let last : slice_get code (length code - 1) ≡ Some end.last = ap (λ (c : List Operation). slice_get c (length c - 1)) end.is ∙ at_end end.front end.last in
    ap (option_and_then (last_kind (slice_get checked.loads 0))) last
    ∙ ap (λ (l : List Kind). last_kind (slice_get l 0) end.last) checks.loads
    ∙ end.gives
