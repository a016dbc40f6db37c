-- An assignment whose expression has a value touches its variable, and what the expression reads.
use Rattle.std.proofs.Common.{◌≡◌, ℕ, ◌<◌, ◌⊎◌, inl, inr, ⊎_elim, Bool, true, false, not, ◌&&◌, Some, List, [], ◌∷◌, ◌++◌, length, unwrap_or, Contains, sym}
use Rattle.std.proofs.Common.{subst, if◌then◌else◌}
use Rattle.sc_values.specs.declared.value.Value.{Value}
use Rattle.sc_values.specs.declared.operator.BinaryOperator.{BinaryOperator}
use Rattle.sc_values.specs.declared.operator.BinaryOperator.TheVariants as binary
use Rattle.sc_values.specs.declared.operator.UnaryOperator.TheVariants as unary
use Rattle.sc_values.specs.declared.operator.Combination.{Combination}
use Rattle.sc_values.specs.declared.operator.Combination.TheVariants as combine
use Rattle.sc_values.specs.declared.expression.Expr.{Expr}
use Rattle.sc_values.specs.declared.expression.Expr.TheOpen.{Expr-F}
use Rattle.sc_values.specs.declared.expression.Expr.TheOpen as tree
use Rattle.sc_values.specs.declared.expression.Expr.TheViews.{roll-Expr, out-Expr, out-roll-Expr}
use Rattle.sc_values.specs.Expr.{value}
use Rattle.sc_values.specs.Assignment.{Assignment, Inits, Combines, reads, is_read, is_variable, combination_of, assignment_of, assignment_of_root}
use Rattle.sc_values.specs.Assignment.{access_of_assignment}
use Rattle.sc_values.proofs.Induction.{induct}
use Rattle.sc_values.proofs.Loading.{loads-unary, loads-binary}
use Rattle.abort_expansion_laws.specs.Stages.{Touches}
use Rattle.chart_machine_laws.proofs.LyingIn.{tail_in}
use Rattle.abort_expansion_laws.proofs.KnownVariables.{known}

-- the assignment reads no more than this expression
abbrev ReadsWithin : ℕ → Expr → Assignment → Type 0
ReadsWithin x e a = (y : ℕ) → Touches (access_of_assignment x a) y → (y ≡ x) ⊎ Contains (reads e) y

inits_within : (x : ℕ) (e : Expr) → ReadsWithin x e (Inits e)
inits_within x e y (inl r) = inr r
inits_within x e y (inr (inl w)) = let is = w.1 in inl cc
inits_within x e y (inr (inr w)) = let is = w.1 in absurd cc

combines_within : (x : ℕ) (e b : Expr) (f : Combination) → ((y : ℕ) → Contains (reads b) y → Contains (reads e) y) → ReadsWithin x e (Combines f b)
combines_within x e b f fewer y (inl r) = inr (fewer y r)
combines_within x e b f fewer y (inr (inl w)) = let is = w.1 in absurd cc
combines_within x e b f fewer y (inr (inr w)) = let is = w.1 in inl cc

by_test : (c : Bool) (x : ℕ) (e : Expr) (a b : Assignment) → ReadsWithin x e a → ReadsWithin x e b → ReadsWithin x e (if c then a else b)
by_test true x e a b h g = h
by_test false x e a b h g = g

behind_in : (xs ys : List ℕ) (y : ℕ) → Contains ys y → Contains (xs ++ ys) y
behind_in [] ys y h = h
behind_in (z ∷ xs) ys y h = tail_in z y (xs ++ ys) (behind_in xs ys y h)

combined_within : (x : ℕ) (f : BinaryOperator) (a b : Expr) → ReadsWithin
    x (roll-Expr (tree.Binary f a b)) (unwrap_or (combination_of f b) (Inits (roll-Expr (tree.Binary f a b))))
combined_within x f a b = by_operator f
  where
    fewer : (g : BinaryOperator) (y : ℕ) → Contains (reads b) y → Contains (reads (roll-Expr (tree.Binary g a b))) y
    fewer g y h = subst (λ zs. Contains zs y) (sym (loads-binary g a b)) (behind_in (reads a) (reads b) y h)

    negated : (g : BinaryOperator) (y : ℕ) → Contains (reads (roll-Expr (tree.Unary unary.Negate b))) y → Contains (reads (roll-Expr (tree.Binary g a b))) y
    negated g y h = fewer g y (subst (λ zs. Contains zs y) (loads-unary unary.Negate b) h)

    by_operator : (g : BinaryOperator) → ReadsWithin x (roll-Expr (tree.Binary g a b)) (unwrap_or (combination_of g b) (Inits (roll-Expr (tree.Binary g a b))))
    by_operator binary.Add = combines_within x (roll-Expr (tree.Binary binary.Add a b)) b combine.Add (fewer binary.Add)
    by_operator binary.Subtract = combines_within x (roll-Expr (tree.Binary binary.Subtract a b)) (roll-Expr (tree.Unary unary.Negate b)) combine.Add
        (negated binary.Subtract)
    by_operator binary.Multiply = combines_within x (roll-Expr (tree.Binary binary.Multiply a b)) b combine.Multiply (fewer binary.Multiply)
    by_operator binary.Min = combines_within x (roll-Expr (tree.Binary binary.Min a b)) b combine.Min (fewer binary.Min)
    by_operator binary.Max = combines_within x (roll-Expr (tree.Binary binary.Max a b)) b combine.Max (fewer binary.Max)
    by_operator binary.And = combines_within x (roll-Expr (tree.Binary binary.And a b)) b combine.And (fewer binary.And)
    by_operator binary.Or = combines_within x (roll-Expr (tree.Binary binary.Or a b)) b combine.Or (fewer binary.Or)
    by_operator binary.Equal = inits_within x (roll-Expr (tree.Binary binary.Equal a b))
    by_operator binary.NotEqual = inits_within x (roll-Expr (tree.Binary binary.NotEqual a b))
    by_operator binary.Less = inits_within x (roll-Expr (tree.Binary binary.Less a b))
    by_operator binary.LessOrEqual = inits_within x (roll-Expr (tree.Binary binary.LessOrEqual a b))
    by_operator binary.Greater = inits_within x (roll-Expr (tree.Binary binary.Greater a b))
    by_operator binary.GreaterOrEqual = inits_within x (roll-Expr (tree.Binary binary.GreaterOrEqual a b))

abbrev Within : Expr → Type 0
Within e = (x : ℕ) → ReadsWithin x e (assignment_of x e)

rolled : (y : Expr-F Expr) → ((x : ℕ) → ReadsWithin x (roll-Expr y) (assignment_of_root x (roll-Expr y) y)) → Within (roll-Expr y)
rolled y h x = subst (λ z. ReadsWithin x (roll-Expr y) (assignment_of_root x (roll-Expr y) z)) (sym (out-roll-Expr y)) (h x)

assigned_within : (e : Expr) → Within e
assigned_within = induct Within (record {
  of_literal = λ v. rolled (tree.Literal v) (λ x. inits_within x (roll-Expr (tree.Literal v)));
  of_load = λ z. rolled (tree.Load z) (λ x. inits_within x (roll-Expr (tree.Load z)));
  of_unary = λ f a h. rolled (tree.Unary f a) (λ x. inits_within x (roll-Expr (tree.Unary f a)));
  of_binary = λ f a b h g. rolled (tree.Binary f a b) (λ x.
      by_test (is_variable x (out-Expr a) && not (is_read x b)) x (roll-Expr (tree.Binary f a b))
      (unwrap_or (combination_of f b) (Inits (roll-Expr (tree.Binary f a b)))) (Inits (roll-Expr (tree.Binary f a b)))
      (combined_within x f a b) (inits_within x (roll-Expr (tree.Binary f a b))));
})

pub assigned_known : (x : ℕ) (e : Expr) (values : List Value) (v : Value) → value e values ≡ Some v → x < length values → (y : ℕ) →
    Touches (access_of_assignment x (assignment_of x e)) y → y < length values
assigned_known x e values v is there y touches =
    ⊎_elim (λ same. subst (λ z. z < length values) (sym same) there) (λ r. known e values v is y r) (assigned_within e x y touches)
