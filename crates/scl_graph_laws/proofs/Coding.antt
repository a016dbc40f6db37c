-- What the node of an assignment does keeps the rules about codes and assignments, where SCL's rules are kept.
use Rattle.std.proofs.Common.{◌≡◌, ◌≢◌, ℕ, zero, suc, ◌+◌, ◌≤◌, ◌&&◌, ◌||◌, Bool, true, false, not, nat_eq, Option, Some, None, List, [], ◌∷◌, ◌++◌}
use Rattle.std.proofs.Common.{◌⊎◌, inl, inr, length, take, slice_get, option_and_then, option_map, unwrap_or, if◌then◌else◌, Contains, refl, sym}
use Rattle.std.proofs.Common.{ap, subst, ◌∙◌, eq-eqb, eqb-true, length-append, arith}
use Rattle.std.specs.List.{list_any}
use Rattle.std.proofs.lemmas.Option.{none-some, same_Some, slice_get-map}
use Rattle.sc_values.specs.declared.value.Kind.{Kind}
use Rattle.sc_values.specs.declared.value.Kind.TheVariants as kind_is
use Rattle.sc_values.specs.declared.operator.BinaryOperator.{BinaryOperator}
use Rattle.sc_values.specs.declared.operator.BinaryOperator.TheVariants as binary
use Rattle.sc_values.specs.declared.operator.UnaryOperator.TheVariants as unary
use Rattle.sc_values.specs.declared.operator.Combination.{Combination}
use Rattle.sc_values.specs.declared.operator.Combination.TheVariants as combine
use Rattle.sc_values.specs.declared.operation.Operation.{Operation}
use Rattle.sc_values.specs.declared.operation.Operation.TheVariants as op
use Rattle.sc_values.specs.declared.expression.Expr.{Expr}
use Rattle.sc_values.specs.declared.expression.Expr.TheOpen.{Expr-F}
use Rattle.sc_values.specs.declared.expression.Expr.TheOpen as tree
use Rattle.sc_values.specs.declared.expression.Expr.TheViews.{out-Expr, roll-Expr}
use Rattle.sc_values.specs.declared.expression.Expr.TheFolds.{fold_out-Expr, map-Expr}
use Rattle.sc_values.specs.Operator.{kind_combined, int_kind, truth_kind, binary_kind, unary_kind}
use Rattle.sc_values.specs.Expr.{kind, kind_step, postorder, postorder_step}
use Rattle.sc_values.specs.Limits.{operation_limit, operand_limit, load_limit}
use Rattle.sc_values.specs.Code.{grown, trees, loads, IsWithinLimits, IsWellFormed}
use Rattle.sc_values.specs.Assignment.{Inits, Combines, is_read, is_variable, combination_of, assignment_of, assignment_of_root}
use Rattle.sc_values.proofs.Induction.{postorder-unary, kind-unary}
use Rattle.sc_values.proofs.Spelling.{trees-postorder, tree_of-postorder}
use Rattle.sc_values.proofs.Loading.{loads-append, loads-unary}
use Rattle.sc_graph.specs.declared.program.Variable.{Variable}
use Rattle.sc_graph.specs.declared.program.Role.TheVariants as role
use Rattle.sc_graph.specs.declared.program.Step.{Step}
use Rattle.sc_graph.specs.declared.program.Step.TheVariants as step
use Rattle.sc_graph.specs.Program.{Program, kind_at, role_at, kinds}
use Rattle.sc_graph.specs.Codes.{IsWritten, StepIsAssigned, StepIsWellFormed}
use Rattle.sc_text.specs.Parts.{IsExpression}
use Rattle.scl.specs.Rules.{IsAssignment}
use Rattle.scl_graph.specs.Graph.{assigns}
use Rattle.scl_graph_laws.proofs.Fitting.{stands_at}
use Rattle.scl_graph_laws.proofs.Operands.{Operands, operands_of, kind_of_binary}

-- ---- the limits of a code that stands behind a load

-- trees that stand below stay there
grown_over : (o : Operation) (stack after more : List Expr) → grown o stack ≡ Some after → grown o (stack ++ more) ≡ Some (after ++ more)
grown_over (op.Literal v) stack after more is = ap (λ s. Some (s ++ more)) (same_Some (roll-Expr (tree.Literal v) ∷ stack) after is)
grown_over (op.Load x) stack after more is = ap (λ s. Some (s ++ more)) (same_Some (roll-Expr (tree.Load x) ∷ stack) after is)
grown_over (op.Unary f) [] after more is = absurd (none-some after is)
grown_over (op.Unary f) (a ∷ stack) after more is = ap (λ s. Some (s ++ more)) (same_Some (roll-Expr (tree.Unary f a) ∷ stack) after is)
grown_over (op.Binary f) [] after more is = absurd (none-some after is)
grown_over (op.Binary f) (b ∷ []) after more is = absurd (none-some after is)
grown_over (op.Binary f) (b ∷ a ∷ stack) after more is = ap (λ s. Some (s ++ more)) (same_Some (roll-Expr (tree.Binary f a b) ∷ stack) after is)

trees_over : (code : List Operation) (stack after more : List Expr) → trees code stack ≡ Some after → trees code (stack ++ more) ≡ Some (after ++ more)
trees_over [] stack after more is = ap (λ s. Some (s ++ more)) (same_Some stack after is)
trees_over (o ∷ code) stack after more is = go (grown o stack) refl is (λ middle left. trees_over code middle after more left)
  where
    go : (between : Option (List Expr)) → grown o stack ≡ between → option_and_then (trees code) between ≡ Some after →
        ((middle : List Expr) → trees code middle ≡ Some after → trees code (middle ++ more) ≡ Some (after ++ more)) →
        trees (o ∷ code) (stack ++ more) ≡ Some (after ++ more)
    go None was left behind = absurd (none-some after left)
    go (Some middle) was left behind = ap (option_and_then (trees code)) (grown_over o stack middle more was) ∙ behind middle left

-- what is taken of a list is taken of what goes on behind it
take_within : {A : Type 0} (n : ℕ) (xs ys : List A) → (m : ℕ) × (take m (xs ++ ys) ≡ take n xs)
take_within zero xs ys = (zero, refl)
take_within (suc n) [] ys = (zero, refl)
take_within (suc n) (x ∷ xs) ys = let more : (m : ℕ) × (take m (xs ++ ys) ≡ take n xs) = take_within n xs ys in (suc more.0, ap (λ zs. x ∷ zs) more.1)

-- of a list with one more behind it, what is taken is of the list, or all
take_last : {A : Type 0} (n : ℕ) (xs : List A) (y : A) → ((m : ℕ) × (take n (xs ++ y ∷ []) ≡ take m xs)) ⊎ (take n (xs ++ y ∷ []) ≡ xs ++ y ∷ [])
take_last zero xs y = inl (zero, refl)
take_last (suc zero) [] y = inr refl
take_last (suc (suc n)) [] y = inr refl
take_last (suc n) (x ∷ xs) y = with_head (take_last n xs y)
  where
    with_head : ((m : ℕ) × (take n (xs ++ y ∷ []) ≡ take m xs)) ⊎ (take n (xs ++ y ∷ []) ≡ xs ++ y ∷ []) →
        ((m : ℕ) × (take (suc n) ((x ∷ xs) ++ y ∷ []) ≡ take m (x ∷ xs))) ⊎ (take (suc n) ((x ∷ xs) ++ y ∷ []) ≡ (x ∷ xs) ++ y ∷ [])
    with_head (inl part) = inl (suc part.0, ap (λ zs. x ∷ zs) part.1)
    with_head (inr all) = inr (ap (λ zs. x ∷ zs) all)

module _ (x : ℕ) (b : Expr) (f : BinaryOperator) (within : IsWithinLimits (op.Load x ∷ (postorder b ++ op.Binary f ∷ []))) where
  abbrev below : List Expr
  below = roll-Expr (tree.Load x) ∷ []

  few_operands : (n : ℕ) (stack : List Expr) → trees (take n (postorder b)) [] ≡ Some stack → length stack ≤ operand_limit
  few_operands n stack is =
      let taken : (m : ℕ) × (take m (postorder b ++ op.Binary f ∷ []) ≡ take n (postorder b)) = take_within n (postorder b) (op.Binary f ∷ []) in
      let over : trees (take n (postorder b)) below ≡ Some (stack ++ below) = trees_over (take n (postorder b)) [] stack below is in
      let few : length (stack ++ below) ≤ operand_limit = within.operands (suc taken.0) (stack ++ below) (ap (λ c. trees c below) taken.1 ∙ over) in
      let sum : length (stack ++ below) ≡ length stack + length below = length-append stack below in
      omega (arith, few, sum)

  few_operations : suc (length (postorder b) + 1) ≤ operation_limit
  few_operations =
      let few : suc (length (postorder b ++ op.Binary f ∷ [])) ≤ operation_limit = within.operations in
      let sum : length (postorder b ++ op.Binary f ∷ []) ≡ length (postorder b) + 1 = length-append (postorder b) (op.Binary f ∷ []) in
      omega (arith, few, sum)

  few_loads : length (loads (postorder b)) ≤ load_limit
  few_loads =
      let few : suc (length (loads (postorder b ++ op.Binary f ∷ []))) ≤ load_limit = within.loaded in
      let parts : length (loads (postorder b ++ op.Binary f ∷ [])) ≡ length (loads (postorder b) ++ loads (op.Binary f ∷ [])) =
      ap length (loads-append (postorder b) (op.Binary f ∷ [])) in
      let sum : length (loads (postorder b) ++ loads (op.Binary f ∷ [])) ≡ length (loads (postorder b)) + length (loads (op.Binary f ∷ [])) =
      length-append (loads (postorder b)) (loads (op.Binary f ∷ [])) in
      omega (arith, few, parts, sum)

  pub right_within : IsWithinLimits (postorder b)
  right_within = record { operations = omega (arith, few_operations); operands = few_operands; loaded = few_loads }

  abbrev negated : Expr
  negated = roll-Expr (tree.Unary unary.Negate b)

  abbrev turned : List Operation
  turned = postorder b ++ op.Unary unary.Negate ∷ []

  turned_operands : (n : ℕ) (stack : List Expr) → trees (take n turned) [] ≡ Some stack → length stack ≤ operand_limit
  turned_operands n stack is = by_part (take_last n (postorder b) (op.Unary unary.Negate))
    where
      by_part : ((m : ℕ) × (take n turned ≡ take m (postorder b))) ⊎ (take n turned ≡ turned) → length stack ≤ operand_limit
      by_part (inl part) = few_operands part.0 stack (ap (λ c. trees c []) (sym part.1) ∙ is)
      by_part (inr all) =
          let whole : trees turned [] ≡ Some (negated ∷ []) = trees-postorder b (op.Unary unary.Negate ∷ []) [] in
          let one : negated ∷ [] ≡ stack = same_Some (negated ∷ []) stack (sym whole ∙ ap (λ c. trees c []) (sym all) ∙ is) in
          let count : length (negated ∷ []) ≡ length stack = ap length one in
          omega (arith, count)

  turned_within : IsWithinLimits turned
  turned_within = record {
    operations =
        let sum : length turned ≡ length (postorder b) + 1 = length-append (postorder b) (op.Unary unary.Negate ∷ []) in
        omega (arith, few_operations, sum);
    operands = turned_operands;
    loaded =
        let parts : length (loads turned) ≡ length (loads (postorder b) ++ loads (op.Unary unary.Negate ∷ [])) =
        ap length (loads-append (postorder b) (op.Unary unary.Negate ∷ [])) in
        let sum : length (loads (postorder b) ++ loads (op.Unary unary.Negate ∷ []))
        ≡ length (loads (postorder b)) + length (loads (op.Unary unary.Negate ∷ [])) =
        length-append (loads (postorder b)) (loads (op.Unary unary.Negate ∷ [])) in
        omega (arith, few_loads, parts, sum);
  }

  pub negated_within : IsWithinLimits (postorder negated)
  negated_within = subst IsWithinLimits (sym (postorder-unary unary.Negate b)) turned_within

-- ---- kinds

sums : (f : BinaryOperator) (m n k : Kind) → truth_kind f ≡ None → binary_kind f m n ≡ Some k → (n ≡ m) × (m ≡ kind_is.Int)
sums f kind_is.Int kind_is.Int k lacks is = (refl, refl)
sums f kind_is.Bool kind_is.Bool k lacks is = absurd (none-some k (sym lacks ∙ is))
sums f kind_is.Int kind_is.Bool k lacks is = absurd (none-some k is)
sums f kind_is.Bool kind_is.Int k lacks is = absurd (none-some k is)

truths : (f : BinaryOperator) (m n k : Kind) → int_kind f ≡ None → binary_kind f m n ≡ Some k → (n ≡ m) × (m ≡ kind_is.Bool)
truths f kind_is.Bool kind_is.Bool k lacks is = (refl, refl)
truths f kind_is.Int kind_is.Int k lacks is = absurd (none-some k (sym lacks ∙ is))
truths f kind_is.Int kind_is.Bool k lacks is = absurd (none-some k is)
truths f kind_is.Bool kind_is.Int k lacks is = absurd (none-some k is)

-- ---- what is read

or_else : (a b : Bool) → b ≡ true → (a || b) ≡ true
or_else true b h = refl
or_else false b h = h

one_equals : (x : ℕ) (xs : List ℕ) (k : ℕ) → slice_get xs k ≡ Some x → list_any (nat_eq x) xs ≡ true
one_equals x [] k is = absurd (none-some x is)
one_equals x (y ∷ xs) zero is = ap (λ b. b || list_any (nat_eq x) xs) (eq-eqb x y (sym (same_Some y x is)))
one_equals x (y ∷ xs) (suc k) is = or_else (nat_eq x y) (list_any (nat_eq x) xs) (one_equals x xs k is)

not_read : (x : ℕ) (b : Expr) → is_read x b ≡ false → ¬ Contains (loads (postorder b)) x
not_read x b lacks h =
    let at : (k : ℕ) × (slice_get (loads (postorder b)) k ≡ Some x) = stands_at (loads (postorder b)) x h in
    let yes : is_read x b ≡ true = one_equals x (loads (postorder b)) at.0 at.1 in
    absurd (cc)

-- ---- the node of an assignment

-- both rules, of a step
abbrev pub KeepsBoth : Program → Step → Type 0
KeepsBoth p s = StepIsWellFormed p s × StepIsAssigned p s

module _ (p : Program) (x : ℕ) (variable : Variable) (there : slice_get p.variables x ≡ Some variable) (no_input : variable.role ≢ role.Input) where
  takes : kind_at p x ≡ Some variable.kind
  takes = ap (option_map (λ v. v.kind)) there

  is_no_input : role_at p x ≢ Some role.Input
  is_no_input h = no_input (same_Some variable.role role.Input (sym (ap (option_map (λ v. v.role)) there) ∙ h))

  written : (e : Expr) → kind e (kinds p) ≡ Some variable.kind → IsWritten p x (postorder e)
  written e kinded = record {
    gives = variable.kind;
    code_gives = ap (option_and_then (λ d. kind d (kinds p))) (tree_of-postorder e) ∙ kinded;
    variable_takes = takes;
    no_input = is_no_input;
  }

  formed : (e : Expr) → kind e (kinds p) ≡ Some variable.kind → IsWithinLimits (postorder e) → IsWellFormed (kinds p) (postorder e)
  formed e kinded within = record { spelt = e; spells = refl; gives = variable.kind; kinded = kinded; within = within }

  combines : (f : Combination) (e : Expr) (next : ℕ) → kind e (kinds p) ≡ Some variable.kind → variable.kind ≡ kind_combined f →
      IsWithinLimits (postorder e) → ¬ Contains (loads (postorder e)) x → KeepsBoth p (assigns x (Combines f e) next)
  combines f e next kinded combined within none = (formed e kinded within, (written e kinded, takes ∙ ap Some combined, none))

  module _ (e : Expr) (next : ℕ) (kinded : kind e (kinds p) ≡ Some variable.kind) (within : IsWithinLimits (postorder e)) where
    inits : KeepsBoth p (assigns x (Inits e) next)
    inits = (formed e kinded within, written e kinded)

    module _ (f : BinaryOperator) (b : Expr) (right : Kind) (is_right : kind b (kinds p) ≡ Some right)
        (gives : binary_kind f variable.kind right ≡ Some variable.kind) (code : postorder e ≡ op.Load x ∷ (postorder b ++ op.Binary f ∷ []))
        (none : is_read x b ≡ false) where
      shorter : IsWithinLimits (postorder b)
      shorter = right_within x b f (subst IsWithinLimits code within)

      by_sum : (g : Combination) → truth_kind f ≡ None → kind_combined g ≡ kind_is.Int → KeepsBoth p (assigns x (Combines g b) next)
      by_sum g lacks is =
          let same : (right ≡ variable.kind) × (variable.kind ≡ kind_is.Int) = sums f variable.kind right variable.kind lacks gives in
          combines g b next (is_right ∙ ap Some same.0) (same.1 ∙ sym is) shorter (not_read x b none)

      by_truth : (g : Combination) → int_kind f ≡ None → kind_combined g ≡ kind_is.Bool → KeepsBoth p (assigns x (Combines g b) next)
      by_truth g lacks is =
          let same : (right ≡ variable.kind) × (variable.kind ≡ kind_is.Bool) = truths f variable.kind right variable.kind lacks gives in
          combines g b next (is_right ∙ ap Some same.0) (same.1 ∙ sym is) shorter (not_read x b none)

      by_difference : truth_kind f ≡ None → KeepsBoth p (assigns x (Combines combine.Add (roll-Expr (tree.Unary unary.Negate b))) next)
      by_difference lacks =
          let same : (right ≡ variable.kind) × (variable.kind ≡ kind_is.Int) = sums f variable.kind right variable.kind lacks gives in
          let of_right : kind b (kinds p) ≡ Some kind_is.Int = is_right ∙ ap Some (same.0 ∙ same.1) in
          combines combine.Add (roll-Expr (tree.Unary unary.Negate b)) next
          (kind-unary unary.Negate b (kinds p) ∙ ap (option_and_then (unary_kind unary.Negate)) of_right ∙ ap Some (sym same.1))
          same.1
          (negated_within x b f (subst IsWithinLimits code within))
          (subst (λ xs. ¬ Contains xs x) (sym (loads-unary unary.Negate b)) (not_read x b none))

    with_operator : (f : BinaryOperator) (b : Expr) (right : Kind) → kind b (kinds p) ≡ Some right →
        binary_kind f variable.kind right ≡ Some variable.kind → postorder e ≡ op.Load x ∷ (postorder b ++ op.Binary f ∷ []) → is_read x b ≡ false →
        KeepsBoth p (assigns x (unwrap_or (combination_of f b) (Inits e)) next)
    with_operator binary.Add b right is gives code none = by_sum binary.Add b right is gives code none combine.Add refl refl
    with_operator binary.Subtract b right is gives code none = by_difference binary.Subtract b right is gives code none refl
    with_operator binary.Multiply b right is gives code none = by_sum binary.Multiply b right is gives code none combine.Multiply refl refl
    with_operator binary.Min b right is gives code none = by_sum binary.Min b right is gives code none combine.Min refl refl
    with_operator binary.Max b right is gives code none = by_sum binary.Max b right is gives code none combine.Max refl refl
    with_operator binary.And b right is gives code none = by_truth binary.And b right is gives code none combine.And refl refl
    with_operator binary.Or b right is gives code none = by_truth binary.Or b right is gives code none combine.Or refl refl
    with_operator binary.Equal b right is gives code none = inits
    with_operator binary.NotEqual b right is gives code none = inits
    with_operator binary.Less b right is gives code none = inits
    with_operator binary.LessOrEqual b right is gives code none = inits
    with_operator binary.Greater b right is gives code none = inits
    with_operator binary.GreaterOrEqual b right is gives code none = inits

    code_of_load : (a : Expr) (y : Expr-F Expr) → out-Expr a ≡ y → is_variable x y ≡ true → postorder a ≡ op.Load x ∷ []
    code_of_load a (tree.Load y) is h =
        fold_out-Expr (List Operation) postorder_step a ∙ ap (λ y. postorder_step (map-Expr Expr (List Operation) postorder y)) is
        ∙ ap (λ y. op.Load y ∷ []) (sym (eqb-true x y h))
    code_of_load a (tree.Literal v) is h = absurd (cc)
    code_of_load a (tree.Unary f b) is h = absurd (cc)
    code_of_load a (tree.Binary f b c) is h = absurd (cc)

    kind_of_load : (a : Expr) (y : Expr-F Expr) → out-Expr a ≡ y → is_variable x y ≡ true → kind a (kinds p) ≡ slice_get (kinds p) x
    kind_of_load a (tree.Load y) is h =
        ap (λ (m : List Kind → Option Kind). m (kinds p)) (fold_out-Expr (List Kind → Option Kind) kind_step a)
        ∙ ap (λ y. kind_step (map-Expr Expr (List Kind → Option Kind) kind y) (kinds p)) is
        ∙ ap (slice_get (kinds p)) (sym (eqb-true x y h))
    kind_of_load a (tree.Literal v) is h = absurd (cc)
    kind_of_load a (tree.Unary f b) is h = absurd (cc)
    kind_of_load a (tree.Binary f b c) is h = absurd (cc)

    on_its_left : (f : BinaryOperator) (a b : Expr) → out-Expr e ≡ tree.Binary f a b → is_variable x (out-Expr a) ≡ true → is_read x b ≡ false →
        KeepsBoth p (assigns x (unwrap_or (combination_of f b) (Inits e)) next)
    on_its_left f a b is first none =
        let ops : Operands f (kind a (kinds p)) (kind b (kinds p)) variable.kind =
        operands_of f (kind a (kinds p)) (kind b (kinds p)) variable.kind (sym (kind_of_binary (kinds p) e f a b is) ∙ kinded) in
        let left : ops.left ≡ variable.kind =
        same_Some ops.left variable.kind (sym ops.is_left ∙ kind_of_load a (out-Expr a) refl first ∙ slice_get-map (λ v. v.kind) p.variables x ∙ takes) in
        let gives : binary_kind f variable.kind ops.right ≡ Some variable.kind = ap (λ k. binary_kind f k ops.right) (sym left) ∙ ops.gives in
        let code : postorder e ≡ op.Load x ∷ (postorder b ++ op.Binary f ∷ []) =
        fold_out-Expr (List Operation) postorder_step e ∙ ap (λ y. postorder_step (map-Expr Expr (List Operation) postorder y)) is
        ∙ ap (λ c. (c ++ postorder b) ++ op.Binary f ∷ []) (code_of_load a (out-Expr a) refl first) in
        with_operator f b ops.right ops.is_right gives code none

    by_root : (y : Expr-F Expr) → out-Expr e ≡ y → KeepsBoth p (assigns x (assignment_of_root x e y) next)
    by_root (tree.Literal v) is = inits
    by_root (tree.Load y) is = inits
    by_root (tree.Unary f a) is = inits
    by_root (tree.Binary f a b) is = by_test (is_variable x (out-Expr a)) refl (is_read x b) refl
      where
        by_test : (c : Bool) → is_variable x (out-Expr a) ≡ c → (d : Bool) → is_read x b ≡ d →
            KeepsBoth p (assigns x (if c && not d then unwrap_or (combination_of f b) (Inits e) else Inits e) next)
        by_test true first false none = on_its_left f a b is first none
        by_test true first true some = inits
        by_test false first d some = inits

pub assignment_keeps_both : (p : Program) (x : ℕ) (e : Expr) (next : ℕ) → IsAssignment p.variables x e → KeepsBoth p (assigns x (assignment_of x e) next)
assignment_keeps_both p x e next kept = by_root p x kept.variable kept.is_there kept.no_input e next kept.becomes.kinded kept.becomes.within (out-Expr e) refl

-- ---- the node of a test

pub test_keeps_both : (p : Program) (e : Expr) (on_true on_false : ℕ) → IsExpression (kinds p) kind_is.Bool e →
    KeepsBoth p (step.Cond (postorder e) on_true on_false)
test_keeps_both p e on_true on_false kept = (
  (
    record { spelt = e; spells = refl; gives = kind_is.Bool; kinded = kept.kinded; within = kept.within },
    ap (option_and_then (λ d. kind d (kinds p))) (tree_of-postorder e) ∙ kept.kinded,
  ),
  tt,
)
