-- A code spells at most one tree, and that is the one which its operations build.
use Rattle.std.proofs.Common.{◌≡◌, Option, Some, None, List, [], ◌∷◌, ◌++◌, option_and_then, refl, sym, ap, ◌∙◌, append_assoc}
use Rattle.std.proofs.lemmas.List.{append-nil}
use Rattle.sc_values.specs.declared.operation.Operation.{Operation}
use Rattle.sc_values.specs.declared.operation.Operation.TheVariants as op
use Rattle.sc_values.specs.declared.expression.Expr.{Expr}
use Rattle.sc_values.specs.declared.expression.Expr.TheOpen as tree
use Rattle.sc_values.specs.declared.expression.Expr.TheViews.{roll-Expr}
use Rattle.sc_values.specs.Expr.{postorder}
use Rattle.sc_values.specs.Code.{Spells, grown, trees, only, tree_of}
use Rattle.sc_values.proofs.Induction.{induct, postorder-literal, postorder-load, postorder-unary, postorder-binary}

-- a tree's postorder leaves the tree, whatever stands below and comes behind
abbrev Leaves : Expr → Type 0
Leaves e = (rest : List Operation) (stack : List Expr) → trees (postorder e ++ rest) stack ≡ trees rest (e ∷ stack)

pub trees-postorder : (e : Expr) → Leaves e
trees-postorder = induct Leaves (record {
  of_literal = λ v rest stack. rw postorder-literal refl;
  of_load = λ x rest stack. rw postorder-load refl;
  of_unary = λ f a left rest stack.
      ap (λ c. trees (c ++ rest) stack) (postorder-unary f a)
      ∙ ap (λ c. trees c stack) (append_assoc (postorder a) (op.Unary f ∷ []) rest)
      ∙ left (op.Unary f ∷ rest) stack;
  of_binary = λ f a b left right rest stack.
      ap (λ c. trees (c ++ rest) stack) (postorder-binary f a b)
      ∙ ap (λ c. trees c stack) (append_assoc (postorder a ++ postorder b) (op.Binary f ∷ []) rest
      ∙ append_assoc (postorder a) (postorder b) (op.Binary f ∷ rest))
      ∙ left (postorder b ++ op.Binary f ∷ rest) stack
      ∙ right (op.Binary f ∷ rest) (a ∷ stack);
})

pub tree_of-postorder : (e : Expr) → tree_of (postorder e) ≡ Some e
tree_of-postorder e = ap (λ c. option_and_then only (trees c [])) (sym (append-nil (postorder e))) ∙ ap (option_and_then only) (trees-postorder e [] [])

pub spells-tree_of : (code : List Operation) (e : Expr) → Spells code e → tree_of code ≡ Some e
spells-tree_of code e spells = ap tree_of (sym spells) ∙ tree_of-postorder e

-- no code spells two trees
pub spelt_once : (code : List Operation) (d e : Expr) → Spells code d → Spells code e → d ≡ e
spelt_once code d e first second =
    let one = spells-tree_of code d first in
    let other = spells-tree_of code e second in
    cc

-- what the trees of a stack spell, the lowest first
abbrev pub spelt : List Expr → List Operation
spelt [] = []
spelt (e ∷ stack) = spelt stack ++ postorder e

pub spelt-grown : (o : Operation) (stack after : List Expr) → grown o stack ≡ Some after → spelt after ≡ spelt stack ++ o ∷ []
spelt-grown (op.Literal v) stack after is =
    let e : after ≡ roll-Expr (tree.Literal v) ∷ stack = cc in
    ap spelt e ∙ ap (λ c. spelt stack ++ c) (postorder-literal v)
spelt-grown (op.Load x) stack after is =
    let e : after ≡ roll-Expr (tree.Load x) ∷ stack = cc in
    ap spelt e ∙ ap (λ c. spelt stack ++ c) (postorder-load x)
spelt-grown (op.Unary f) [] after is = cc
spelt-grown (op.Unary f) (a ∷ stack) after is =
    let e : after ≡ roll-Expr (tree.Unary f a) ∷ stack = cc in
    ap spelt e ∙ ap (λ c. spelt stack ++ c) (postorder-unary f a) ∙ sym (append_assoc (spelt stack) (postorder a) (op.Unary f ∷ []))
spelt-grown (op.Binary f) [] after is = cc
spelt-grown (op.Binary f) (b ∷ []) after is = cc
spelt-grown (op.Binary f) (b ∷ a ∷ stack) after is =
    let e : after ≡ roll-Expr (tree.Binary f a b) ∷ stack = cc in
    ap spelt e ∙ ap (λ c. spelt stack ++ c) (postorder-binary f a b)
    ∙ sym (append_assoc (spelt stack) (postorder a ++ postorder b) (op.Binary f ∷ []))
    ∙ ap (λ c. c ++ op.Binary f ∷ []) (sym (append_assoc (spelt stack) (postorder a) (postorder b)))

-- what stands after a code spells what stood before it, and then the code
pub spelt-trees : (code : List Operation) (stack after : List Expr) → trees code stack ≡ Some after → spelt after ≡ spelt stack ++ code
spelt-trees [] stack after is =
    let e : after ≡ stack = cc in
    ap spelt e ∙ sym (append-nil (spelt stack))
spelt-trees (o ∷ code) stack after is = go (grown o stack) refl is (λ middle left. spelt-trees code middle after left)
  where
    go : (between : Option (List Expr)) → grown o stack ≡ between → option_and_then (trees code) between ≡ Some after
        → ((middle : List Expr) → trees code middle ≡ Some after → spelt after ≡ spelt middle ++ code) → spelt after ≡ spelt stack ++ o ∷ code
    go None was left behind = cc
    go (Some middle) was left behind =
        behind middle left
        ∙ ap (λ c. c ++ code) (spelt-grown o stack middle was)
        ∙ append_assoc (spelt stack) (o ∷ []) code

only-one : (stack : List Expr) (e : Expr) → only stack ≡ Some e → stack ≡ e ∷ []
only-one [] e is = cc
only-one (d ∷ []) e is = let same : d ≡ e = cc in ap (λ t. t ∷ []) same
only-one (d ∷ c ∷ stack) e is = cc

pub tree_of-spells : (code : List Operation) (e : Expr) → tree_of code ≡ Some e → Spells code e
tree_of-spells code e is = go (trees code []) refl is
  where
    go : (all : Option (List Expr)) → trees code [] ≡ all → option_and_then only all ≡ Some e → Spells code e
    go None was one = cc
    go (Some stack) was one =
        let alone = only-one stack e one in
        ap spelt (sym alone) ∙ spelt-trees code [] stack was
