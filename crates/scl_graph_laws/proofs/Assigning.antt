-- An assignment gives the variable the value of its expression, and its node does the same, also where it is an update.
use Rattle.std.proofs.Common.{◌≡◌, ℕ, ◌&&◌, Bool, true, false, not, Option, Some, None, List, map, refl, sym, ap, subst, ◌∙◌, neg_ℤ, option_map}
use Rattle.std.proofs.Common.{option_and_then, slice_get, slice_set, unwrap_or, eqb-true, if◌then◌else◌}
use Rattle.std.specs.Int.{w32}
use Rattle.std.proofs.lemmas.Int.{int_wrap-add_right}
use Rattle.std.proofs.Math.Seq.{map-set_same}
use Rattle.std.proofs.lemmas.Option.{slice_get-map, get_or_from_slice_get}
use Rattle.sc_values.specs.declared.value.Value.{Value}
use Rattle.sc_values.specs.declared.value.Value.TheVariants as value
use Rattle.sc_values.specs.declared.value.Kind.{Kind}
use Rattle.sc_values.specs.declared.operator.BinaryOperator.{BinaryOperator}
use Rattle.sc_values.specs.declared.operator.BinaryOperator.TheVariants as binary
use Rattle.sc_values.specs.declared.operator.UnaryOperator.TheVariants as unary
use Rattle.sc_values.specs.declared.operator.Combination.{Combination}
use Rattle.sc_values.specs.declared.operator.Combination.TheVariants as combine
use Rattle.sc_values.specs.declared.expression.Expr.{Expr}
use Rattle.sc_values.specs.declared.expression.Expr.TheOpen.{Expr-F}
use Rattle.sc_values.specs.declared.expression.Expr.TheOpen as tree
use Rattle.sc_values.specs.declared.expression.Expr.TheViews.{out-Expr}
use Rattle.sc_values.specs.declared.expression.Expr.TheFolds.{fold_out-Expr, map-Expr}
use Rattle.sc_values.specs.Operator.{kind_of, kind_combined, unary_value, binary_value, operator_of, combined}
use Rattle.sc_values.specs.Expr.{value_step, postorder}
use Rattle.sc_values.specs.Expr.{value as value_of}
use Rattle.sc_values.specs.Assignment.{Assignment, Inits, Combines, is_read, is_variable, combination_of, assignment_of, assignment_of_root}
use Rattle.sc_values.proofs.Induction.{value-unary}
use Rattle.sc_values.proofs.Evaluating.{tree_value}
use Rattle.sc_graph.specs.declared.control.Control.{Control}
use Rattle.sc_graph.specs.Program.{Program, kind_at}
use Rattle.sc_graph.specs.Steps.{Change, Put, Combine, Effect, changed, combined_at, only_if, is_kind, takes_kind, goes, assigned as assigned_by_node, updated}
use Rattle.sc_graph.specs.Steps.{node_effect}
use Rattle.scl.specs.Block.{Block}
use Rattle.scl.specs.Labels.{settled}
use Rattle.scl.specs.Numbering.{Numbered}
use Rattle.scl.specs.Meaning.{ThreadChange, goes_on, assigned}
use Rattle.scl_graph.specs.Graph.{assigns, number}
use Rattle.tick_laws.proofs.KindsKept.{kinds_same}
use Rattle.scl_graph_laws.proofs.Agreeing.{KeepsKinds, Agree, agree_if, GoesTo, agree_onward}

-- the variable becomes this value, which has to be of its kind
abbrev pub put : ℕ → (Change → Option ThreadChange) → Option Kind → Option Value → Option ThreadChange
put x done k v = option_and_then (λ v. only_if (takes_kind k (kind_of v)) (done (Put x v))) v

abbrev pub put_by_node : ℕ → (Change → Option Effect) → Option Kind → Option Value → Option Effect
put_by_node x gone k v = option_and_then (λ v. only_if (takes_kind k (kind_of v)) (gone (Put x v))) v

-- it is combined with this value
abbrev pub combine_by_node : ℕ → (Change → Option Effect) → Option Kind → Combination → Option Value → Option Effect
combine_by_node x gone k f v = option_and_then (λ v. only_if (takes_kind k (kind_of v) && is_kind (kind_combined f) (kind_of v)) (gone (Combine x f v))) v

-- what the node of an assignment does
abbrev pub taken : List Value → ℕ → (Change → Option Effect) → Option Kind → Assignment → Option Effect
taken variables x gone k (Inits e) = put_by_node x gone k (value_of e variables)
taken variables x gone k (Combines f e) = combine_by_node x gone k f (value_of e variables)

-- what is done with a changed variable agrees
module _ (root : Block) (variables : List Value) (x : ℕ) (done : Change → Option ThreadChange) (gone : Change → Option Effect)
    (agree : (c d : Change) → changed d variables ≡ changed c variables → KeepsKinds variables c → Agree root variables (done c) (gone d)) where
  -- a value of the variable's own kind keeps the kinds
  keeps_kind : (u v : Value) → slice_get variables x ≡ Some u → kind_of v ≡ kind_of u → KeepsKinds variables (Put x v)
  keeps_kind u v there is = map-set_same kind_of variables x v u (is ∙ ap kind_of (sym (get_or_from_slice_get variables x u u there)))

  -- there is no such variable
  puts_nothing : (v : Option Value) → put x done None v ≡ None
  puts_nothing None = refl
  puts_nothing (Some v) = refl

  node_puts_nothing : (v : Option Value) → put_by_node x gone None v ≡ None
  node_puts_nothing None = refl
  node_puts_nothing (Some v) = refl

  node_combines_nothing : (f : Combination) (v : Option Value) → combine_by_node x gone None f v ≡ None
  node_combines_nothing f None = refl
  node_combines_nothing f (Some v) = refl

  takes_nothing : (a : Assignment) → taken variables x gone None a ≡ None
  takes_nothing (Inits e) = node_puts_nothing (value_of e variables)
  takes_nothing (Combines f e) = node_combines_nothing f (value_of e variables)

  inits_there : (u : Value) → slice_get variables x ≡ Some u → (v : Option Value)
      → Agree root variables (put x done (Some (kind_of u)) v) (put_by_node x gone (Some (kind_of u)) v)
  inits_there u there None = tt
  inits_there u there (Some v) = agree_if root variables (is_kind (kind_of u) (kind_of v)) (is_kind (kind_of u) (kind_of v)) refl (done (Put x v))
      (gone (Put x v)) (λ h. agree (Put x v) (Put x v) refl (keeps_kind u v there (sym (kinds_same (kind_of u) (kind_of v) h))))

  inits_at : (o : Option Value) → slice_get variables x ≡ o → (v : Option Value)
      → Agree root variables (put x done (option_map kind_of o) v) (put_by_node x gone (option_map kind_of o) v)
  inits_at None there v = subst (λ d. Agree root variables d (put_by_node x gone None v)) (sym (puts_nothing v))
      (subst (λ g. Agree root variables None g) (sym (node_puts_nothing v)) tt)
  inits_at (Some u) there v = inits_there u there v

  inits : (v : Option Value) → Agree root variables (put x done (option_map kind_of (slice_get variables x)) v)
      (put_by_node x gone (option_map kind_of (slice_get variables x)) v)
  inits v = inits_at (slice_get variables x) refl v

  -- ---- the variable has this value

  combined_there : (u : Value) → slice_get variables x ≡ Some u → (f : Combination) (w v : Value) → combined f u w ≡ v → changed (Combine x f w) variables
      ≡ changed (Put x v) variables
  combined_there u there f w v is = ap (combined_at variables x f w) there ∙ ap (slice_set variables x) is

  combines : (f : Combination) (u w : Value) → slice_get variables x ≡ Some u
      → Agree root variables (put x done (Some (kind_of u)) (binary_value (operator_of f) u w)) (combine_by_node x gone (Some (kind_of u)) f (Some w))
  combines combine.Add (value.Int m) (value.Int n) there = agree _ _ (combined_there (value.Int m) there combine.Add (value.Int n) _ refl)
      (keeps_kind (value.Int m) _ there refl)
  combines combine.Multiply (value.Int m) (value.Int n) there = agree _ _ (combined_there (value.Int m) there combine.Multiply (value.Int n) _ refl)
      (keeps_kind (value.Int m) _ there refl)
  combines combine.Min (value.Int m) (value.Int n) there = agree _ _ (combined_there (value.Int m) there combine.Min (value.Int n) _ refl)
      (keeps_kind (value.Int m) _ there refl)
  combines combine.Max (value.Int m) (value.Int n) there = agree _ _ (combined_there (value.Int m) there combine.Max (value.Int n) _ refl)
      (keeps_kind (value.Int m) _ there refl)
  combines combine.And (value.Bool a) (value.Bool b) there = agree _ _ (combined_there (value.Bool a) there combine.And (value.Bool b) _ refl)
      (keeps_kind (value.Bool a) _ there refl)
  combines combine.Or (value.Bool a) (value.Bool b) there = agree _ _ (combined_there (value.Bool a) there combine.Or (value.Bool b) _ refl)
      (keeps_kind (value.Bool a) _ there refl)
  combines combine.Add (value.Bool a) (value.Bool b) there = tt
  combines combine.Multiply (value.Bool a) (value.Bool b) there = tt
  combines combine.Min (value.Bool a) (value.Bool b) there = tt
  combines combine.Max (value.Bool a) (value.Bool b) there = tt
  combines combine.And (value.Int m) (value.Int n) there = tt
  combines combine.Or (value.Int m) (value.Int n) there = tt
  combines combine.Add (value.Int m) (value.Bool b) there = tt
  combines combine.Add (value.Bool a) (value.Int n) there = tt
  combines combine.Multiply (value.Int m) (value.Bool b) there = tt
  combines combine.Multiply (value.Bool a) (value.Int n) there = tt
  combines combine.Min (value.Int m) (value.Bool b) there = tt
  combines combine.Min (value.Bool a) (value.Int n) there = tt
  combines combine.Max (value.Int m) (value.Bool b) there = tt
  combines combine.Max (value.Bool a) (value.Int n) there = tt
  combines combine.And (value.Int m) (value.Bool b) there = tt
  combines combine.And (value.Bool a) (value.Int n) there = tt
  combines combine.Or (value.Int m) (value.Bool b) there = tt
  combines combine.Or (value.Bool a) (value.Int n) there = tt

  combines_with : (f : Combination) (u : Value) → slice_get variables x ≡ Some u → (w : Option Value) →
      Agree root variables (put x done (Some (kind_of u)) (option_and_then (binary_value (operator_of f) u) w)) (combine_by_node x gone (Some (kind_of u)) f w)
  combines_with f u there None = tt
  combines_with f u there (Some w) = combines f u w there

  -- what is taken off is added with its sign turned
  decreases : (u w : Value) → slice_get variables x ≡ Some u → Agree root variables (put x done (Some (kind_of u)) (binary_value binary.Subtract u w))
      (combine_by_node x gone (Some (kind_of u)) combine.Add (unary_value unary.Negate w))
  decreases (value.Int m) (value.Int n) there = agree _ _
      (combined_there (value.Int m) there combine.Add _ _ (ap value.Int (int_wrap-add_right w32 m (neg_ℤ n)))) (keeps_kind (value.Int m) _ there refl)
  decreases (value.Int m) (value.Bool b) there = tt
  decreases (value.Bool a) (value.Int n) there = tt
  decreases (value.Bool a) (value.Bool b) there = tt

  decreases_by : (u : Value) → slice_get variables x ≡ Some u → (w : Option Value) →
      Agree root variables (put x done (Some (kind_of u)) (option_and_then (binary_value binary.Subtract u) w))
      (combine_by_node x gone (Some (kind_of u)) combine.Add (option_and_then (unary_value unary.Negate) w))
  decreases_by u there None = tt
  decreases_by u there (Some w) = decreases u w there

  -- ---- the assignment that the root of an expression makes

  abbrev WithOperator : (f : BinaryOperator) (b e : Expr) → Value → Type 0
  WithOperator f b e u = Agree root variables (put x done (Some (kind_of u)) (option_and_then (binary_value f u) (value_of b variables)))
      (taken variables x gone (Some (kind_of u)) (unwrap_or (combination_of f b) (Inits e)))

  module _ (b e : Expr) (u : Value) (there : slice_get variables x ≡ Some u) where
    initializes : (f : BinaryOperator) → value_of e variables ≡ option_and_then (binary_value f u) (value_of b variables)
        → Agree root variables (put x done (Some (kind_of u)) (option_and_then (binary_value f u) (value_of b variables)))
        (put_by_node x gone (Some (kind_of u)) (value_of e variables))
    initializes f is = subst (λ v. Agree root variables (put x done (Some (kind_of u)) v) (put_by_node x gone (Some (kind_of u)) (value_of e variables))) is
        (inits_there u there (value_of e variables))

    with_operator : (f : BinaryOperator) → value_of e variables ≡ option_and_then (binary_value f u) (value_of b variables) → WithOperator f b e u
    with_operator binary.Add is = combines_with combine.Add u there (value_of b variables)
    with_operator binary.Subtract is = subst
        (λ w. Agree root variables (put x done (Some (kind_of u)) (option_and_then (binary_value binary.Subtract u) (value_of b variables)))
        (combine_by_node x gone (Some (kind_of u)) combine.Add w)) (sym (value-unary unary.Negate b variables)) (decreases_by u there (value_of b variables))
    with_operator binary.Multiply is = combines_with combine.Multiply u there (value_of b variables)
    with_operator binary.Min is = combines_with combine.Min u there (value_of b variables)
    with_operator binary.Max is = combines_with combine.Max u there (value_of b variables)
    with_operator binary.And is = combines_with combine.And u there (value_of b variables)
    with_operator binary.Or is = combines_with combine.Or u there (value_of b variables)
    with_operator binary.Equal is = initializes binary.Equal is
    with_operator binary.NotEqual is = initializes binary.NotEqual is
    with_operator binary.Less is = initializes binary.Less is
    with_operator binary.LessOrEqual is = initializes binary.LessOrEqual is
    with_operator binary.Greater is = initializes binary.Greater is
    with_operator binary.GreaterOrEqual is = initializes binary.GreaterOrEqual is

  -- x is the left operand, whether it has a value or not
  on_its_left : (f : BinaryOperator) (b e : Expr) (o : Option Value) → slice_get variables x ≡ o → value_of e variables
      ≡ option_and_then (λ u. option_and_then (binary_value f u) (value_of b variables)) o →
      Agree root variables (put x done (option_map kind_of o) (value_of e variables))
      (taken variables x gone (option_map kind_of o) (unwrap_or (combination_of f b) (Inits e)))
  on_its_left f b e None there is =
      subst (λ d. Agree root variables d (taken variables x gone None (unwrap_or (combination_of f b) (Inits e)))) (sym (puts_nothing (value_of e variables)))
      (subst (λ g. Agree root variables None g) (sym (takes_nothing (unwrap_or (combination_of f b) (Inits e)))) tt)
  on_its_left f b e (Some u) there is =
      subst (λ v. Agree root variables (put x done (Some (kind_of u)) v) (taken variables x gone (Some (kind_of u)) (unwrap_or (combination_of f b) (Inits e))))
      (sym is) (with_operator b e u there f is)

  value_of_variable : (a : Expr) (y : Expr-F Expr) → out-Expr a ≡ y → is_variable x y ≡ true → value_of a variables ≡ slice_get variables x
  value_of_variable a (tree.Load y) is h =
      ap (λ (m : List Value → Option Value). m variables) (fold_out-Expr (List Value → Option Value) value_step a)
      ∙ ap (λ y. value_step (map-Expr Expr (List Value → Option Value) value_of y) variables) is
      ∙ ap (slice_get variables) (sym (eqb-true x y h))
  value_of_variable a (tree.Literal v) is h = absurd (cc)
  value_of_variable a (tree.Unary f b) is h = absurd (cc)
  value_of_variable a (tree.Binary f b c) is h = absurd (cc)

  value_of_binary : (e : Expr) (f : BinaryOperator) (a b : Expr) → out-Expr e ≡ tree.Binary f a b → value_of e variables
      ≡ option_and_then (λ m. option_and_then (binary_value f m) (value_of b variables)) (value_of a variables)
  value_of_binary e f a b is =
      ap (λ (m : List Value → Option Value). m variables) (fold_out-Expr (List Value → Option Value) value_step e)
      ∙ ap (λ y. value_step (map-Expr Expr (List Value → Option Value) value_of y) variables) is

  by_root : (e : Expr) (y : Expr-F Expr) → out-Expr e ≡ y
      → Agree root variables (put x done (option_map kind_of (slice_get variables x)) (value_of e variables))
      (taken variables x gone (option_map kind_of (slice_get variables x)) (assignment_of_root x e y))
  by_root e (tree.Literal v) is = inits (value_of e variables)
  by_root e (tree.Load y) is = inits (value_of e variables)
  by_root e (tree.Unary f a) is = inits (value_of e variables)
  by_root e (tree.Binary f a b) is = by_test (is_variable x (out-Expr a)) refl (not (is_read x b))
    where
      by_test : (c : Bool) → is_variable x (out-Expr a) ≡ c → (d : Bool)
          → Agree root variables (put x done (option_map kind_of (slice_get variables x)) (value_of e variables))
          (taken variables x gone (option_map kind_of (slice_get variables x)) (if c && d then unwrap_or (combination_of f b) (Inits e) else Inits e))
      by_test true h true = on_its_left f b e (slice_get variables x) refl
          (value_of_binary e f a b is ∙ ap (option_and_then (λ m. option_and_then (binary_value f m) (value_of b variables)))
          (value_of_variable a (out-Expr a) refl h))
      by_test true h false = inits (value_of e variables)
      by_test false h d = inits (value_of e variables)

-- the node of an assignment takes what its code gives
node_takes : (q : Program) (c : Control) (t x n : ℕ) (a : Assignment) → node_effect q c t (assigns x a n)
    ≡ taken c.variables x (λ d. goes q t d n) (kind_at q x) a
node_takes q c t x n (Inits e) = ap (option_and_then (assigned_by_node q t x n)) (sym (tree_value (postorder e) e c.variables refl))
node_takes q c t x n (Combines f e) = ap (option_and_then (updated q t x f n)) (sym (tree_value (postorder e) e c.variables refl))

-- an assignment and its node do the same
pub agree_assign : (p : Numbered) (q : Program) (c : Control) (t x : ℕ) (e : Expr) (rest : Block) → GoesTo q p.root t rest → map kind_of c.variables
    ≡ map (λ a. a.kind) p.variables → q.variables ≡ p.variables →
    Agree p.root c.variables (option_and_then (assigned p t x rest) (value_of e c.variables))
    (node_effect q c t (assigns x (assignment_of x e) (number (settled p.root rest))))
agree_assign p q c t x e rest to kinds same =
    subst (Agree p.root c.variables (put x done by_text v)) (sym (node_takes q c t x n a))
    (subst (λ k. Agree p.root c.variables (put x done by_text v) (taken c.variables x gone k a)) (text_kind ∙ node_kind)
    (subst (λ k. Agree p.root c.variables (put x done k v) (taken c.variables x gone of_value a)) text_kind
    (by_root p.root c.variables x done gone (agree_onward q p.root t rest c.variables to) e (out-Expr e) refl)))
  where
    n : ℕ
    n = number (settled p.root rest)

    v : Option Value
    v = value_of e c.variables

    a : Assignment
    a = assignment_of x e

    done : Change → Option ThreadChange
    done d = goes_on p.root t d rest

    gone : Change → Option Effect
    gone d = goes q t d n

    of_value : Option Kind
    of_value = option_map kind_of (slice_get c.variables x)

    by_text : Option Kind
    by_text = option_map (λ a. a.kind) (slice_get p.variables x)

    text_kind : of_value ≡ by_text
    text_kind = sym (slice_get-map kind_of c.variables x) ∙ ap (λ ks. slice_get ks x) kinds ∙ slice_get-map (λ a. a.kind) p.variables x

    node_kind : by_text ≡ kind_at q x
    node_kind = ap (λ xs. option_map (λ a. a.kind) (slice_get xs x)) (sym same)
