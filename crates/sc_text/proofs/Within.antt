-- What the limits of a draft's expression are to the code of it.
use Rattle.std.proofs.Common.{◌≡◌, ℕ, zero, suc, ◌+◌, ◌≤◌, max, Bool, true, false, cond, Option, Some, None, List, [], ◌∷◌, ◌++◌, length, take, refl, sym, ◌∙◌}
use Rattle.std.proofs.Common.{ap, subst, arith}
use Rattle.std.specs.Prelude.{option_and_then, count_by, ◌&&◌}
use Rattle.std.specs.List.{list_all}
use Rattle.std.proofs.Math.Nat.{le-max_left, le-max_right}
use Rattle.std.proofs.lemmas.List.Folds.{list_all-append}
use Rattle.std.proofs.lemmas.List.Sums.{sum_by-cons}
use Rattle.sc_values.specs.declared.operation.Operation.{Operation}
use Rattle.sc_values.specs.declared.operation.Operation.TheVariants as op
use Rattle.sc_values.specs.declared.expression.Expr.{Expr}
use Rattle.sc_values.specs.declared.expression.Expr.TheOpen as tree
use Rattle.sc_values.specs.declared.expression.Expr.TheViews.{roll-Expr}
use Rattle.sc_values.specs.declared.expression.Expr.TheFolds.{fold-roll-Expr}
use Rattle.sc_values.specs.Expr.{postorder}
use Rattle.sc_values.specs.Code.{grown, trees, loads}
use Rattle.sc_values.proofs.Induction.{induct, postorder-literal, postorder-load, postorder-unary, postorder-binary}
use Rattle.sc_text.specs.declared.operation.TextOperation.{TextOperation}
use Rattle.sc_text.specs.declared.operation.TextOperation.TheVariants as text
use Rattle.sc_text.specs.Phrases.{Phrase}
use Rattle.sc_text.specs.Parts.{is_writable_literal, is_writable_unary, writable_step, is_writable}
use Rattle.sc_text.specs.Writable.{is_writable_operation}
use Rattle.sc_text.specs.Flaws.{is_load, height_behind, greatest_height}
use Rattle.sc_text.specs.Resolved.{operation_of, code_of}

-- ---- how many operands stand

pub height_grown : (names : List (List ℕ)) (o : TextOperation) (ts after : List Expr) → grown (operation_of names o) ts ≡ Some after
    → length after ≡ height_behind o (length ts)
height_grown names (text.Literal v) ts after e =
    let same : roll-Expr (tree.Literal v) ∷ ts ≡ after = cc in
    let long = ap length same in
    omega (arith, long)
height_grown names (text.Load name at) ts after e =
    let same = cons_is _ ts after e in
    let long = ap length same in
    omega (arith, long)
  where
    cons_is : (t : Expr) (ts after : List Expr) → Some (t ∷ ts) ≡ Some after → t ∷ ts ≡ after
    cons_is t ts after e = cc
height_grown names (text.Unary f) [] after e = absurd cc
height_grown names (text.Unary f) (t ∷ ts) after e =
    let same : roll-Expr (tree.Unary f t) ∷ ts ≡ after = cc in
    let long = ap length same in
    omega (arith, long)
height_grown names (text.Binary f) [] after e = absurd cc
height_grown names (text.Binary f) (t ∷ []) after e = absurd cc
height_grown names (text.Binary f) (t ∷ s ∷ ts) after e =
    let same : roll-Expr (tree.Binary f s t) ∷ ts ≡ after = cc in
    let long = ap length same in
    omega (arith, long)

pub heights : (names : List (List ℕ)) (p : Phrase) (ts : List Expr) (n : ℕ) (stack : List Expr) → trees (take n (code_of names p)) ts ≡ Some stack
    → length stack ≤ greatest_height (length ts) p
heights names [] ts zero stack e =
    let same : ts ≡ stack = cc in
    let long = ap length same in
    omega (arith, long)
heights names [] ts (suc n) stack e =
    let same : ts ≡ stack = cc in
    let long = ap length same in
    omega (arith, long)
heights names (o ∷ p) ts zero stack e =
    let same : ts ≡ stack = cc in
    let long = ap length same in
    let most = le-max_left (length ts) (greatest_height (height_behind o (length ts)) p) in
    omega (arith, long, most)
heights names (o ∷ p) ts (suc n) stack e = go (grown (operation_of names o) ts) refl e (λ middle left. heights names p middle n stack left)
  where
    go : (m : Option (List Expr)) → grown (operation_of names o) ts ≡ m → option_and_then (trees (take n (code_of names p))) m ≡ Some stack →
        ((middle : List Expr) → trees (take n (code_of names p)) middle ≡ Some stack → length stack ≤ greatest_height (length middle) p) →
        length stack ≤ max (length ts) (greatest_height (height_behind o (length ts)) p)
    go None was e more = absurd cc
    go (Some middle) was e more =
        let less : length stack ≤ greatest_height (height_behind o (length ts)) p =
        subst (λ h. length stack ≤ greatest_height h p) (height_grown names o ts middle was) (more middle e) in
        let most = le-max_right (length ts) (greatest_height (height_behind o (length ts)) p) in
        omega (arith, less, most)

-- ---- how many variables are loaded

counted : (o : TextOperation) (p : Phrase) (n : ℕ) → n ≡ count_by is_load p → cond (is_load o) 1 0 + n ≡ count_by is_load (o ∷ p)
counted o p n e = let sum = sum_by-cons (λ o. cond (is_load o) 1 0) o p in omega (arith, sum, e)

pub load_count : (names : List (List ℕ)) (p : Phrase) → length (loads (code_of names p)) ≡ count_by is_load p
load_count names [] = refl
load_count names (text.Literal v ∷ p) = let e = counted (text.Literal v) p (length (loads (code_of names p))) (load_count names p) in omega (arith, e)
load_count names (text.Load name at ∷ p) = let e = counted (text.Load name at) p (length (loads (code_of names p))) (load_count names p) in omega (arith, e)
load_count names (text.Unary f ∷ p) = let e = counted (text.Unary f) p (length (loads (code_of names p))) (load_count names p) in omega (arith, e)
load_count names (text.Binary f ∷ p) = let e = counted (text.Binary f) p (length (loads (code_of names p))) (load_count names p) in omega (arith, e)

-- ---- what a text can write

abbrev is_writable_code : Operation → Bool
is_writable_code (op.Literal v) = is_writable_literal v
is_writable_code (op.Unary f) = is_writable_unary f
is_writable_code o = true

writable_code : (names : List (List ℕ)) (p : Phrase) → list_all is_writable_code (code_of names p) ≡ list_all is_writable_operation p
writable_code names [] = refl
writable_code names (text.Literal v ∷ p) = ap (λ b. is_writable_literal v && b) (writable_code names p)
writable_code names (text.Load name at ∷ p) = writable_code names p
writable_code names (text.Unary f ∷ p) = ap (λ b. is_writable_unary f && b) (writable_code names p)
writable_code names (text.Binary f ∷ p) = writable_code names p

and_true : (a : Bool) → (a && true) ≡ a
and_true true = refl
and_true false = refl

and_turned : (a b : Bool) → (a && (b && true)) ≡ (b && a)
and_turned true true = refl
and_turned true false = refl
and_turned false true = refl
and_turned false false = refl

abbrev all_writable : List Operation → Bool
all_writable code = list_all is_writable_code code

abbrev IsToldByCode : Expr → Type 0
IsToldByCode e = is_writable e ≡ all_writable (postorder e)

told : (e : Expr) → IsToldByCode e
told = induct IsToldByCode (record {
  of_literal = λ v. fold-roll-Expr Bool writable_step (tree.Literal v) ∙ sym (and_true (is_writable_literal v)) ∙ sym (ap all_writable (postorder-literal v));
  of_load = λ x. fold-roll-Expr Bool writable_step (tree.Load x) ∙ sym (ap all_writable (postorder-load x));
  of_unary = λ f a is.
      fold-roll-Expr Bool writable_step (tree.Unary f a) ∙ ap (λ b. is_writable_unary f && b) is
      ∙ sym (and_turned (all_writable (postorder a)) (is_writable_unary f))
      ∙ sym (list_all-append is_writable_code (postorder a) (op.Unary f ∷ []))
      ∙ sym (ap all_writable (postorder-unary f a));
  of_binary = λ f a b left right.
      fold-roll-Expr Bool writable_step (tree.Binary f a b) ∙ ap (λ c. c && is_writable b) left ∙ ap (λ c. all_writable (postorder a) && c) right
      ∙ sym (list_all-append is_writable_code (postorder a) (postorder b))
      ∙ sym (and_true (all_writable (postorder a ++ postorder b)))
      ∙ sym (list_all-append is_writable_code (postorder a ++ postorder b) (op.Binary f ∷ []))
      ∙ sym (ap all_writable (postorder-binary f a b));
})

pub writable : (names : List (List ℕ)) (p : Phrase) (e : Expr) → postorder e ≡ code_of names p → list_all is_writable_operation p ≡ true → is_writable e ≡ true
writable names p e is all = told e ∙ ap all_writable is ∙ writable_code names p ∙ all
