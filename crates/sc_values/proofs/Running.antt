-- The machine over a stack of values, and how deep its stack grows.
use Rattle.std.proofs.Common.{◌≡◌, ℕ, zero, suc, ◌≤◌, Option, Some, None, List, [], ◌∷◌, ◌++◌, option_and_then, slice_get, length, take, refl, sym, ap, ◌∙◌}
use Rattle.std.proofs.Common.{append_assoc, subst, arith}
use Rattle.std.proofs.lemmas.List.{append-nil}
use Rattle.sc_values.specs.declared.value.Value.{Value}
use Rattle.sc_values.specs.declared.value.Kind.{Kind}
use Rattle.sc_values.specs.declared.operation.Operation.{Operation}
use Rattle.sc_values.specs.declared.operation.Operation.TheVariants as op
use Rattle.sc_values.specs.declared.expression.Expr.{Expr}
use Rattle.sc_values.specs.declared.expression.Expr.TheOpen as tree
use Rattle.sc_values.specs.declared.expression.Expr.TheViews.{roll-Expr}
use Rattle.sc_values.specs.Limits.{operand_limit}
use Rattle.sc_values.specs.Operator.{unary_value, binary_value}
use Rattle.sc_values.specs.Expr.{value, postorder}
use Rattle.sc_values.specs.Code.{grown, trees, only, tree_of, code_value, IsWellFormed}
use Rattle.sc_values.specs.Inside.Stack.{put_on, acted, height}
use Rattle.sc_values.proofs.Induction.{induct, postorder-literal, postorder-load, postorder-unary, postorder-binary, value-literal, value-load, value-unary}
use Rattle.sc_values.proofs.Induction.{value-binary}
use Rattle.sc_values.proofs.Loaded.{loaded_item}
use Rattle.sc_values.proofs.Spelling.{spells-tree_of, tree_of-spells}

-- a code over a stack of values
abbrev pub ran : List Value → List Operation → List Value → Option (List Value)
ran variables [] stack = Some stack
ran variables (o ∷ code) stack = option_and_then (ran variables code) (acted (loaded_item variables o) o stack)

abbrev RunsTo : Expr → Type 0
RunsTo e = (variables : List Value) (v : Value) (rest : List Operation) (stack : List Value) → value e variables ≡ Some v
    → ran variables (postorder e ++ rest) stack ≡ ran variables rest (v ∷ stack)

-- an operand that has a value is a value
pub record Given {A B : Type 0} (f : A → Option B) (a : Option A) (r : B) : Type 0 where
  pub operand : A
  pub is : a ≡ Some operand
  pub gives : f operand ≡ Some r

pub given : {A B : Type 0} (f : A → Option B) (a : Option A) (r : B) → option_and_then f a ≡ Some r → Given f a r
given f None r is = absurd cc
given f (Some x) r is = record { operand = x; is = refl; gives = is }

pub ran-postorder : (e : Expr) → RunsTo e
ran-postorder = induct RunsTo (record {
  of_literal = λ l variables v rest stack is.
      let same : Some l ≡ Some v = sym (value-literal l variables) ∙ is in
      let e : l ≡ v = cc in
      ap (λ c. ran variables (c ++ rest) stack) (postorder-literal l) ∙ ap (λ w. ran variables rest (w ∷ stack)) e;
  of_load = λ x variables v rest stack is.
      let here : slice_get variables x ≡ Some v = sym (value-load x variables) ∙ is in
      ap (λ c. ran variables (c ++ rest) stack) (postorder-load x)
      ∙ ap (λ o. option_and_then (ran variables rest) (put_on stack o)) here;
  of_unary = λ f a left variables v rest stack is.
      let g = given (unary_value f) (value a variables) v (sym (value-unary f a variables) ∙ is) in
      ap (λ c. ran variables (c ++ rest) stack) (postorder-unary f a)
      ∙ ap (λ c. ran variables c stack) (append_assoc (postorder a) (op.Unary f ∷ []) rest)
      ∙ left variables g.operand (op.Unary f ∷ rest) stack g.is
      ∙ ap (λ o. option_and_then (ran variables rest) (put_on stack o)) g.gives;
  of_binary = λ f a b left right variables v rest stack is.
      let g = given (λ m. option_and_then (binary_value f m) (value b variables)) (value a variables) v (sym (value-binary f a b variables) ∙ is) in
      let h = given (binary_value f g.operand) (value b variables) v g.gives in
      ap (λ c. ran variables (c ++ rest) stack) (postorder-binary f a b)
      ∙ ap (λ c. ran variables c stack) (append_assoc (postorder a ++ postorder b) (op.Binary f ∷ []) rest
      ∙ append_assoc (postorder a) (postorder b) (op.Binary f ∷ rest))
      ∙ left variables g.operand (postorder b ++ op.Binary f ∷ rest) stack g.is
      ∙ right variables h.operand (op.Binary f ∷ rest) (g.operand ∷ stack) h.is
      ∙ ap (λ o. option_and_then (ran variables rest) (put_on stack o)) h.gives;
})

-- the machine computes the code's value
pub ran-code_value : (code : List Operation) (variables : List Value) (v : Value) → code_value code variables ≡ Some v → ran variables code [] ≡ Some (v ∷ [])
ran-code_value code variables v is =
    let g = given (λ e. value e variables) (tree_of code) v is in
    let spells : postorder g.operand ≡ code = tree_of-spells code g.operand g.is in
    ap (λ c. ran variables c []) (sym (append-nil code) ∙ ap (λ c. c ++ []) (sym spells))
    ∙ ran-postorder g.operand variables v [] [] g.gives

-- from n operands on, a code never has too many
abbrev pub Fits : List Operation → ℕ → Type 0
Fits [] n = n ≤ operand_limit
Fits (o ∷ code) n = (n ≤ operand_limit) × Fits code (height o n)

pub length-grown : (o : Operation) (stack after : List Expr) → grown o stack ≡ Some after → length after ≡ height o (length stack)
length-grown (op.Literal v) stack after is = let e : after ≡ roll-Expr (tree.Literal v) ∷ stack = cc in ap length e
length-grown (op.Load x) stack after is = let e : after ≡ roll-Expr (tree.Load x) ∷ stack = cc in ap length e
length-grown (op.Unary f) [] after is = absurd cc
length-grown (op.Unary f) (a ∷ stack) after is = let e : after ≡ roll-Expr (tree.Unary f a) ∷ stack = cc in ap length e
length-grown (op.Binary f) [] after is = absurd cc
length-grown (op.Binary f) (b ∷ []) after is = absurd cc
length-grown (op.Binary f) (b ∷ a ∷ stack) after is = let e : after ≡ roll-Expr (tree.Binary f a b) ∷ stack = cc in ap length e ∙ omega arith

pub fits_from : (code : List Operation) (stack after : List Expr) → trees code stack ≡ Some after
    → ((n : ℕ) (s : List Expr) → trees (take n code) stack ≡ Some s → length s ≤ operand_limit) → Fits code (length stack)
fits_from [] stack after is limit = limit 0 stack refl
fits_from (o ∷ code) stack after is limit =
    let g = given (trees code) (grown o stack) after is in
    let below = fits_from code g.operand after g.gives (λ n s h. limit (suc n) s (ap (option_and_then (trees (take n code))) g.is ∙ h)) in
    (limit 0 stack refl, let P : ℕ → Type 0 = λ n. Fits code n in subst P (length-grown o stack g.operand g.is) below)

pub fits_limit : (code : List Operation) (stack : List Expr) → Fits code (length stack) → (n : ℕ) (s : List Expr) → trees (take n code) stack ≡ Some s
    → length s ≤ operand_limit
fits_limit [] stack fits zero s is = let e : s ≡ stack = cc in subst (λ (t : List Expr). length t ≤ operand_limit) (sym e) fits
fits_limit [] stack fits (suc n) s is = let e : s ≡ stack = cc in subst (λ (t : List Expr). length t ≤ operand_limit) (sym e) fits
fits_limit (o ∷ code) stack fits zero s is = let e : s ≡ stack = cc in subst (λ (t : List Expr). length t ≤ operand_limit) (sym e) fits.0
fits_limit (o ∷ code) stack fits (suc n) s is =
    let g = given (trees (take n code)) (grown o stack) s is in
    let P : ℕ → Type 0 = λ m. Fits code m in
    fits_limit code g.operand (subst P (sym (length-grown o stack g.operand g.is)) fits.1) n s g.gives

pub well_formed_fits : (kinds : List Kind) (code : List Operation) → IsWellFormed kinds code → Fits code 0
well_formed_fits kinds code formed =
    let g = given only (trees code []) formed.spelt (spells-tree_of code formed.spelt formed.spells) in
    fits_from code [] g.operand g.is formed.within.operands

pub fits_here : (code : List Operation) (n : ℕ) → Fits code n → n ≤ operand_limit
fits_here [] n fits = fits
fits_here (o ∷ code) n fits = fits.0
