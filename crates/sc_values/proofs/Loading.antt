-- The value of a code depends on the variables that it loads alone.
use Rattle.std.proofs.Common.{◌≡◌, ℕ, Option, Some, None, List, [], ◌∷◌, ◌++◌, option_and_then, Contains, slice_get, refl, sym, ap, ◌∙◌, subst, arith}
use Rattle.std.proofs.lemmas.List.Elements.{filter_map-append, Contains-append_left, Contains-append_right}
use Rattle.sc_values.specs.declared.value.Value.{Value}
use Rattle.sc_values.specs.declared.operator.UnaryOperator.{UnaryOperator}
use Rattle.sc_values.specs.declared.operator.BinaryOperator.{BinaryOperator}
use Rattle.sc_values.specs.declared.operation.Operation.{Operation}
use Rattle.sc_values.specs.declared.operation.Operation.TheVariants as op
use Rattle.sc_values.specs.declared.expression.Expr.{Expr}
use Rattle.sc_values.specs.declared.expression.Expr.TheOpen as tree
use Rattle.sc_values.specs.declared.expression.Expr.TheViews.{roll-Expr}
use Rattle.sc_values.specs.Operator.{unary_value, binary_value}
use Rattle.sc_values.specs.Expr.{value, postorder}
use Rattle.sc_values.specs.Code.{Spells, tree_of, code_value, loads, loaded}
use Rattle.sc_values.proofs.Induction.{induct, postorder-literal, postorder-load, postorder-unary, postorder-binary, value-literal, value-load, value-unary}
use Rattle.sc_values.proofs.Induction.{value-binary}
use Rattle.sc_values.proofs.Spelling.{tree_of-spells}

-- two lists of variables give the same at each of these
pub record SameAt (xs : List ℕ) (v w : List Value) : Type 0 where
  pub at : (x : ℕ) → Contains xs x → slice_get v x ≡ slice_get w x

pub loads-append : (a b : List Operation) → loads (a ++ b) ≡ loads a ++ loads b
loads-append a b = filter_map-append loaded a b

pub loads-literal : (v : Value) → loads (postorder (roll-Expr (tree.Literal v))) ≡ []
loads-literal v = ap loads (postorder-literal v)

pub loads-load : (x : ℕ) → loads (postorder (roll-Expr (tree.Load x))) ≡ x ∷ []
loads-load x = ap loads (postorder-load x)

append-nil : (xs : List ℕ) → xs ++ [] ≡ xs
append-nil [] = refl
append-nil (x ∷ xs) = ap (λ t. x ∷ t) (append-nil xs)

pub loads-unary : (f : UnaryOperator) (a : Expr) → loads (postorder (roll-Expr (tree.Unary f a))) ≡ loads (postorder a)
loads-unary f a = ap loads (postorder-unary f a) ∙ loads-append (postorder a) (op.Unary f ∷ []) ∙ append-nil (loads (postorder a))

pub loads-binary : (f : BinaryOperator) (a b : Expr) → loads (postorder (roll-Expr (tree.Binary f a b))) ≡ loads (postorder a) ++ loads (postorder b)
loads-binary f a b =
    ap loads (postorder-binary f a b)
    ∙ loads-append (postorder a ++ postorder b) (op.Binary f ∷ [])
    ∙ append-nil (loads (postorder a ++ postorder b))
    ∙ loads-append (postorder a) (postorder b)

same_here : (xs ys : List ℕ) (v w : List Value) → xs ≡ ys → SameAt xs v w → SameAt ys v w
same_here xs ys v w e same = let P : List ℕ → Type 0 = λ l. SameAt l v w in subst P e same

same_left : (xs ys : List ℕ) (v w : List Value) → SameAt (xs ++ ys) v w → SameAt xs v w
same_left xs ys v w same = record { at = λ x h. same.at x (Contains-append_left xs ys x h) }

same_right : (xs ys : List ℕ) (v w : List Value) → SameAt (xs ++ ys) v w → SameAt ys v w
same_right xs ys v w same = record { at = λ x h. same.at x (Contains-append_right xs ys x h) }

abbrev OnlyLoads : Expr → Type 0
OnlyLoads e = (v w : List Value) → SameAt (loads (postorder e)) v w → value e v ≡ value e w

pub value_same : (e : Expr) → OnlyLoads e
value_same = induct OnlyLoads (record {
  of_literal = λ l v w same. value-literal l v ∙ sym (value-literal l w);
  of_load = λ x v w same.
      let here = same_here _ _ v w (loads-load x) same in
      value-load x v ∙ here.at x (0, omega arith, refl) ∙ sym (value-load x w);
  of_unary = λ f a left v w same.
      let here = same_here _ _ v w (loads-unary f a) same in
      value-unary f a v ∙ ap (option_and_then (unary_value f)) (left v w here) ∙ sym (value-unary f a w);
  of_binary = λ f a b left right v w same.
      let here = same_here _ _ v w (loads-binary f a b) same in
      let first = left v w (same_left (loads (postorder a)) (loads (postorder b)) v w here) in
      let second = right v w (same_right (loads (postorder a)) (loads (postorder b)) v w here) in
      value-binary f a b v
      ∙ ap (option_and_then (λ m. option_and_then (binary_value f m) (value b v))) first
      ∙ ap (λ (r : Option Value). option_and_then (λ m. option_and_then (binary_value f m) r) (value a w)) second
      ∙ sym (value-binary f a b w);
})

pub code_value_same : (code : List Operation) (v w : List Value) → ((x : ℕ) → Contains (loads code) x → slice_get v x ≡ slice_get w x) → code_value code v
    ≡ code_value code w
code_value_same code v w same = go (tree_of code) refl
  where
    go : (spelt : Option Expr) → tree_of code ≡ spelt → option_and_then (λ e. value e v) spelt ≡ option_and_then (λ e. value e w) spelt
    go None was = refl
    go (Some e) was =
        let spells : Spells code e = tree_of-spells code e was in
        value_same e v w (same_here _ _ v w (ap loads (sym spells)) (record { at = same }))
