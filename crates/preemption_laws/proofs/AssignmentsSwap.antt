-- Two assignments that may stand in either order give the same in either order.
use Rattle.std.proofs.Common.{◌≡◌, ◌≢◌, ℕ, ◌<◌, ◌⊎◌, inl, inr, ⊎_elim, Bool, true, false, not, ◌&&◌, Option, Some, None, List, []}
use Rattle.std.proofs.Common.{length, nat_eq, option_and_then, unwrap_or, slice_get, slice_set, Contains, if◌then◌else◌, refl, sym, ap}
use Rattle.std.proofs.Common.{subst, ◌∙◌, neg_ℤ, set-set}
use Rattle.std.specs.Int.{w32}
use Rattle.std.proofs.lemmas.Bool.{cases_Bool, and_parts}
use Rattle.std.proofs.lemmas.Bool.Decides.{Decides-eqb}
use Rattle.std.proofs.lemmas.Int.{int_wrap-add_right}
use Rattle.std.proofs.lemmas.List.{set_comm}
use Rattle.std.proofs.lemmas.Option.{same_Some, slice_get_within}
use Rattle.sc_values.specs.declared.value.Value.{Value}
use Rattle.sc_values.specs.declared.value.Value.TheVariants as value_is
use Rattle.sc_values.specs.declared.value.Kind.{Kind}
use Rattle.sc_values.specs.declared.operator.BinaryOperator.{BinaryOperator}
use Rattle.sc_values.specs.declared.operator.BinaryOperator.TheVariants as binary
use Rattle.sc_values.specs.declared.operator.UnaryOperator.TheVariants as unary
use Rattle.sc_values.specs.declared.operator.Combination.{Combination}
use Rattle.sc_values.specs.declared.operator.Combination.TheVariants as combine
use Rattle.sc_values.specs.declared.expression.Expr.{Expr}
use Rattle.sc_values.specs.declared.expression.Expr.TheOpen.{Expr-F}
use Rattle.sc_values.specs.declared.expression.Expr.TheOpen as tree
use Rattle.sc_values.specs.declared.expression.Expr.TheViews.{roll-Expr, out-Expr, out-roll-Expr}
use Rattle.sc_values.specs.Access.{Access, Reads, Precedes, init_update, init_read, update_read, two_inits, two_updates, MayPrecede}
use Rattle.sc_values.specs.Access.{same_literal}
use Rattle.sc_values.specs.Assignment.{Assignment, Inits, Combines, reads, is_read, is_variable, combination_of, assignment_of, assignment_of_root}
use Rattle.sc_values.specs.Assignment.{access_of_assignment}
use Rattle.sc_values.specs.Code.{literal_of}
use Rattle.sc_values.specs.Expr.{value, postorder}
use Rattle.sc_values.specs.Operator.{kind_of, kind_combined, unary_value, binary_value, operator_of, combined}
use Rattle.sc_values.proofs.Evaluating.{tree_value}
use Rattle.sc_values.proofs.Induction.{induct, value-load, value-unary, value-binary}
use Rattle.sc_values.proofs.Literals.{literal_from_same, literal_value}
use Rattle.sc_values.proofs.Loading.{value_same, loads-load, loads-unary, loads-binary}
use Rattle.sc_values.proofs.Merge.{combined_kind, combined_turn, one_combination}
use Rattle.sc_graph.specs.Steps.{takes_kind}
use Rattle.tick_laws.proofs.Lists.{same_or_not, and_then_some, contains_none, contains_cons, get_set_other, get_set_same}
use Rattle.abort_expansion_laws.proofs.KnownVariables.{in_either}

-- ---- what an assignment does

-- the variable is combined with the value of b, and besides it b alone is read
pub record CombinesBy (x : ℕ) (e : Expr) (f : Combination) (b : Expr) : Type 0 where
  pub gives : (values : List Value) →
      value e values ≡ option_and_then (λ u. option_and_then (binary_value (operator_of f) u) (value b values)) (slice_get values x)
  pub within : (y : ℕ) → Contains (reads e) y → (y ≡ x) ⊎ Contains (reads b) y

pub data Assigns (x : ℕ) (e : Expr) : Assignment → Type 0 where
  assigns_value : Assigns x e (Inits e)
  assigns_by : (f : Combination) (b : Expr) → CombinesBy x e f b → Assigns x e (Combines f b)

-- an expression that is nothing but the variable
record IsVariable (x : ℕ) (a : Expr) : Type 0 where
  gives : (values : List Value) → value a values ≡ slice_get values x
  alone : (y : ℕ) → Contains (reads a) y → y ≡ x

abbrev MayBe : Expr → Type 0
MayBe a = (x : ℕ) → is_variable x (out-Expr a) ≡ true → IsVariable x a

shaped : (y : Expr-F Expr) → ((x : ℕ) → is_variable x y ≡ true → IsVariable x (roll-Expr y)) → MayBe (roll-Expr y)
shaped y h x is = h x (subst (λ z. is_variable x z ≡ true) (out-roll-Expr y) is)

loaded_variable : (z x : ℕ) → nat_eq x z ≡ true → IsVariable x (roll-Expr (tree.Load z))
loaded_variable z x is =
    let same : x ≡ z = (Decides-eqb x z).0 is in
    record {
      gives = λ values. value-load z values ∙ ap (slice_get values) (sym same);
      alone = λ y h.
          ⊎_elim (λ head. sym head ∙ sym same) (λ none. absurd (contains_none y none))
          (contains_cons z y [] (subst (λ ys. Contains ys y) (loads-load z) h));
    }

may_be : (a : Expr) → MayBe a
may_be = induct MayBe (record {
  of_literal = λ v. shaped (tree.Literal v) (λ x is. absurd cc);
  of_load = λ z. shaped (tree.Load z) (loaded_variable z);
  of_unary = λ f a h. shaped (tree.Unary f a) (λ x is. absurd cc);
  of_binary = λ f a b h g. shaped (tree.Binary f a b) (λ x is. absurd cc);
})

-- what is taken off is added with its sign turned
less_is_more : (u : Value) (w : Option Value) →
    option_and_then (binary_value binary.Subtract u) w ≡ option_and_then (binary_value binary.Add u) (option_and_then (unary_value unary.Negate) w)
less_is_more u None = refl
less_is_more (value_is.Int m) (Some (value_is.Int n)) = ap (λ z. Some (value_is.Int z)) (sym (int_wrap-add_right w32 m (neg_ℤ n)))
less_is_more (value_is.Int m) (Some (value_is.Bool b)) = refl
less_is_more (value_is.Bool a) (Some (value_is.Int n)) = refl
less_is_more (value_is.Bool a) (Some (value_is.Bool b)) = refl

module _ (x : ℕ) (a b : Expr) (var : IsVariable x a) where
  within_right : (g : BinaryOperator) (y : ℕ) → Contains (reads (roll-Expr (tree.Binary g a b))) y → (y ≡ x) ⊎ Contains (reads b) y
  within_right g y h =
      ⊎_elim (λ first. inl (var.alone y first)) (λ second. inr second)
      (in_either (reads a) (reads b) y (subst (λ ys. Contains ys y) (loads-binary g a b) h))

  on_left : (g : BinaryOperator) (values : List Value) →
      value (roll-Expr (tree.Binary g a b)) values ≡ option_and_then (λ u. option_and_then (binary_value g u) (value b values)) (slice_get values x)
  on_left g values = value-binary g a b values ∙ ap (option_and_then (λ u. option_and_then (binary_value g u) (value b values))) (var.gives values)

  combines : (f : Combination) → CombinesBy x (roll-Expr (tree.Binary (operator_of f) a b)) f b
  combines f = record { gives = on_left (operator_of f); within = within_right (operator_of f) }

  turned_sign : (values : List Value) (o : Option Value) →
      option_and_then (λ u. option_and_then (binary_value binary.Subtract u) (value b values)) o
      ≡ option_and_then (λ u. option_and_then (binary_value binary.Add u) (value (roll-Expr (tree.Unary unary.Negate b)) values)) o
  turned_sign values None = refl
  turned_sign values (Some u) =
      less_is_more u (value b values) ∙ ap (option_and_then (binary_value binary.Add u)) (sym (value-unary unary.Negate b values))

  decreases : CombinesBy x (roll-Expr (tree.Binary binary.Subtract a b)) combine.Add (roll-Expr (tree.Unary unary.Negate b))
  decreases =
      record {
        gives = λ values. on_left binary.Subtract values ∙ turned_sign values (slice_get values x);
        within = λ y h.
            ⊎_elim (λ same. inl same) (λ second. inr (subst (λ ys. Contains ys y) (sym (loads-unary unary.Negate b)) second))
            (within_right binary.Subtract y h);
      }

  by_operator : (g : BinaryOperator) →
      Assigns x (roll-Expr (tree.Binary g a b)) (unwrap_or (combination_of g b) (Inits (roll-Expr (tree.Binary g a b))))
  by_operator binary.Add = assigns_by combine.Add b (combines combine.Add)
  by_operator binary.Subtract = assigns_by combine.Add (roll-Expr (tree.Unary unary.Negate b)) decreases
  by_operator binary.Multiply = assigns_by combine.Multiply b (combines combine.Multiply)
  by_operator binary.Min = assigns_by combine.Min b (combines combine.Min)
  by_operator binary.Max = assigns_by combine.Max b (combines combine.Max)
  by_operator binary.And = assigns_by combine.And b (combines combine.And)
  by_operator binary.Or = assigns_by combine.Or b (combines combine.Or)
  by_operator binary.Equal = assigns_value
  by_operator binary.NotEqual = assigns_value
  by_operator binary.Less = assigns_value
  by_operator binary.LessOrEqual = assigns_value
  by_operator binary.Greater = assigns_value
  by_operator binary.GreaterOrEqual = assigns_value

abbrev Does : Expr → Type 0
Does e = (x : ℕ) → Assigns x e (assignment_of x e)

rolled : (y : Expr-F Expr) → ((x : ℕ) → Assigns x (roll-Expr y) (assignment_of_root x (roll-Expr y) y)) → Does (roll-Expr y)
rolled y h x = subst (λ z. Assigns x (roll-Expr y) (assignment_of_root x (roll-Expr y) z)) (sym (out-roll-Expr y)) (h x)

by_test : (c : Bool) (x : ℕ) (e : Expr) (a b : Assignment) → (c ≡ true → Assigns x e a) → Assigns x e b → Assigns x e (if c then a else b)
by_test true x e a b h g = h refl
by_test false x e a b h g = g

pub assigns : (e : Expr) (x : ℕ) → Assigns x e (assignment_of x e)
assigns = induct Does (record {
  of_literal = λ v. rolled (tree.Literal v) (λ x. assigns_value);
  of_load = λ z. rolled (tree.Load z) (λ x. assigns_value);
  of_unary = λ f a h. rolled (tree.Unary f a) (λ x. assigns_value);
  of_binary = λ f a b h g. rolled (tree.Binary f a b) (λ x.
      by_test (is_variable x (out-Expr a) && not (is_read x b)) x (roll-Expr (tree.Binary f a b))
      (unwrap_or (combination_of f b) (Inits (roll-Expr (tree.Binary f a b)))) (Inits (roll-Expr (tree.Binary f a b)))
      (λ is. by_operator x a b (may_be a x (and_parts (is_variable x (out-Expr a)) (not (is_read x b)) is).0) f) assigns_value);
})

-- ---- updates by one combination

kinds_from : (f : Combination) (u w v : Value) → binary_value (operator_of f) u w ≡ Some v → (kind_of u ≡ kind_combined f) × (kind_of w ≡ kind_combined f)
kinds_from combine.Add (value_is.Int m) (value_is.Int n) v h = (refl, refl)
kinds_from combine.Multiply (value_is.Int m) (value_is.Int n) v h = (refl, refl)
kinds_from combine.Min (value_is.Int m) (value_is.Int n) v h = (refl, refl)
kinds_from combine.Max (value_is.Int m) (value_is.Int n) v h = (refl, refl)
kinds_from combine.And (value_is.Bool a) (value_is.Bool b) v h = (refl, refl)
kinds_from combine.Or (value_is.Bool a) (value_is.Bool b) v h = (refl, refl)
kinds_from combine.Add (value_is.Bool a) (value_is.Bool b) v h = absurd cc
kinds_from combine.Multiply (value_is.Bool a) (value_is.Bool b) v h = absurd cc
kinds_from combine.Min (value_is.Bool a) (value_is.Bool b) v h = absurd cc
kinds_from combine.Max (value_is.Bool a) (value_is.Bool b) v h = absurd cc
kinds_from combine.And (value_is.Int m) (value_is.Int n) v h = absurd cc
kinds_from combine.Or (value_is.Int m) (value_is.Int n) v h = absurd cc
kinds_from combine.Add (value_is.Int m) (value_is.Bool b) v h = absurd cc
kinds_from combine.Add (value_is.Bool a) (value_is.Int n) v h = absurd cc
kinds_from combine.Multiply (value_is.Int m) (value_is.Bool b) v h = absurd cc
kinds_from combine.Multiply (value_is.Bool a) (value_is.Int n) v h = absurd cc
kinds_from combine.Min (value_is.Int m) (value_is.Bool b) v h = absurd cc
kinds_from combine.Min (value_is.Bool a) (value_is.Int n) v h = absurd cc
kinds_from combine.Max (value_is.Int m) (value_is.Bool b) v h = absurd cc
kinds_from combine.Max (value_is.Bool a) (value_is.Int n) v h = absurd cc
kinds_from combine.And (value_is.Int m) (value_is.Bool b) v h = absurd cc
kinds_from combine.And (value_is.Bool a) (value_is.Int n) v h = absurd cc
kinds_from combine.Or (value_is.Int m) (value_is.Bool b) v h = absurd cc
kinds_from combine.Or (value_is.Bool a) (value_is.Int n) v h = absurd cc

-- the other one first
record Turned (f : Combination) (u w x v : Value) : Type 0 where
  first : Value
  gives_first : binary_value (operator_of f) u x ≡ Some first
  gives_second : binary_value (operator_of f) first w ≡ Some v
  kind : kind_of first ≡ kind_of v

turned : (f : Combination) (u w x v1 v2 : Value) → binary_value (operator_of f) u w ≡ Some v1 → binary_value (operator_of f) v1 x ≡ Some v2 → Turned f u w x v2
turned f u w x v1 v2 one two =
    let of_one = kinds_from f u w v1 one in
    let of_two = kinds_from f v1 x v2 two in
    let a = combined_kind f u w of_one.0 of_one.1 in
    let b = combined_kind f v1 x of_two.0 of_two.1 in
    let c = combined_kind f u x of_one.0 of_two.1 in
    let d = combined_kind f (combined f u x) w (c.kept ∙ of_one.0) of_one.1 in
    let v1_is : combined f u w ≡ v1 = same_Some (combined f u w) v1 (sym a.given ∙ one) in
    let v2_is : combined f v1 x ≡ v2 = same_Some (combined f v1 x) v2 (sym b.given ∙ two) in
    record {
      first = combined f u x;
      gives_first = c.given;
      gives_second = d.given ∙ ap Some (combined_turn f u x w ∙ (ap (λ z. combined f z x) v1_is ∙ v2_is));
      kind = c.kept ∙ (of_one.0 ∙ (sym of_two.0 ∙ (sym b.kept ∙ ap kind_of v2_is)));
    }

-- ---- two assignments

module _ (declared : ℕ → Option Kind) where
  -- variable x becomes the value of e, which is of its kind
  pub record Wrote (x : ℕ) (e : Expr) (before now : List Value) : Type 0 where
    pub v : Value
    pub is : value e before ≡ Some v
    pub fits : takes_kind (declared x) (kind_of v) ≡ true
    pub made : slice_set before x v ≡ now

  abbrev pub access : ℕ → Expr → Access
  access x e = access_of_assignment x (assignment_of x e)

  -- the other one first
  pub record OtherFirst (x y : ℕ) (e f : Expr) (before now : List Value) : Type 0 where
    pub between : List Value
    pub first : Wrote y f before between
    pub second : Wrote x e between now

  -- who reads a variable comes behind its assignment
  pub reads_behind : (x : ℕ) (a : Assignment) (b : Access) → Reads b x → Precedes (access_of_assignment x a) b
  reads_behind x (Inits e) b h = init_read x (literal_of (postorder e), refl) h
  reads_behind x (Combines f e) b h = update_read x f refl h

  reads_other : (x y : ℕ) (f : Expr) (a b : Assignment) → Assigns y f b → x ≢ y → ¬ Precedes (access_of_assignment x a) (access_of_assignment y b) →
      ¬ Contains (reads f) x
  reads_other x y f a _ assigns_value ne none h = none (reads_behind x a (access_of_assignment y (Inits f)) h)
  reads_other x y f a _ (assigns_by c d by) ne none h =
      ⊎_elim ne (λ inner. none (reads_behind x a (access_of_assignment y (Combines c d)) inner)) (by.within x h)

  unread_same : (e : Expr) (x : ℕ) (v : Value) (values : List Value) → ¬ Contains (reads e) x → value e (slice_set values x v) ≡ value e values
  unread_same e x v values none =
      value_same e (slice_set values x v) values
      (record { at = λ y h. get_set_other values x y v (λ same. none (subst (Contains (reads e)) same h)) })

  apart_swap : (x y : ℕ) (e f : Expr) (before mid now : List Value) → x ≢ y → Wrote x e before mid → Wrote y f mid now →
      MayPrecede (access x e) (access y f) → MayPrecede (access y f) (access x e) → OtherFirst x y e f before now
  apart_swap x y e f before mid now ne one two may may_too =
      let f_same : value f mid ≡ value f before =
      ap (value f) (sym one.made)
      ∙ unread_same f x one.v before (reads_other x y f (assignment_of x e) (assignment_of y f) (assigns f y) ne may_too.no_order) in
      let e_same : value e (slice_set before y two.v) ≡ value e before =
      unread_same e y two.v before
      (reads_other y x e (assignment_of y f) (assignment_of x e) (assigns e x) (λ same. ne (sym same)) may.no_order) in
      record {
        between = slice_set before y two.v;
        first = record { v = two.v; is = sym f_same ∙ two.is; fits = two.fits; made = refl };
        second =
            record {
              v = one.v;
              is = e_same ∙ one.is;
              fits = one.fits;
              made = set_comm before y x two.v one.v (λ same. ne (sym same)) ∙ (ap (λ z. slice_set z y two.v) one.made ∙ two.made);
            };
      }

  literal_swap : (x : ℕ) (e f : Expr) (before mid now : List Value) → Wrote x e before mid → Wrote x f mid now → (l : Value) →
      ((values : List Value) → value e values ≡ Some l) → ((values : List Value) → value f values ≡ Some l) → OtherFirst x x e f before now
  literal_swap x e f before mid now one two l e_is f_is =
      let first_is : one.v ≡ l = same_Some one.v l (sym one.is ∙ e_is before) in
      let second_is : two.v ≡ l = same_Some two.v l (sym two.is ∙ f_is mid) in
      record {
        between = slice_set before x l;
        first = record { v = l; is = f_is before; fits = subst (λ z. takes_kind (declared x) (kind_of z) ≡ true) second_is two.fits; made = refl };
        second =
            record {
              v = l;
              is = e_is (slice_set before x l);
              fits = subst (λ z. takes_kind (declared x) (kind_of z) ≡ true) first_is one.fits;
              made =
                  ap (λ z. slice_set (slice_set before x z) x l) (sym first_is)
                  ∙ (ap (λ z. slice_set (slice_set before x one.v) x z) (sym second_is) ∙ (ap (λ z. slice_set z x two.v) one.made ∙ two.made));
            };
      }

  update_swap : (x : ℕ) (e f : Expr) (before mid now : List Value) → Wrote x e before mid → Wrote x f mid now → (c : Combination) (a b : Expr) →
      CombinesBy x e c a → CombinesBy x f c b → ¬ Contains (reads a) x → ¬ Contains (reads b) x → OtherFirst x x e f before now
  update_swap x e f before mid now one two c a b by_a by_b not_a not_b =
      let u = and_then_some (λ u. option_and_then (binary_value (operator_of c) u) (value a before)) (slice_get before x) one.v
      (sym (by_a.gives before) ∙ one.is) in
      let w = and_then_some (binary_value (operator_of c) u.0) (value a before) one.v u.2 in
      let there : x < length before = slice_get_within before x u.0 u.1 in
      let p = and_then_some (λ z. option_and_then (binary_value (operator_of c) z) (value b mid)) (slice_get mid x) two.v
      (sym (by_b.gives mid) ∙ two.is) in
      let q = and_then_some (binary_value (operator_of c) p.0) (value b mid) two.v p.2 in
      let p_is : p.0 ≡ one.v =
      same_Some p.0 one.v (sym p.1 ∙ (ap (λ z. slice_get z x) (sym one.made) ∙ get_set_same before x one.v there)) in
      let b_same : value b before ≡ value b mid = sym (unread_same b x one.v before not_b) ∙ ap (value b) one.made in
      let t : Turned c u.0 w.0 q.0 two.v =
      turned c u.0 w.0 q.0 one.v two.v w.2 (subst (λ z. binary_value (operator_of c) z q.0 ≡ Some two.v) p_is q.2) in
      record {
        between = slice_set before x t.first;
        first =
            record {
              v = t.first;
              is = by_b.gives before
                  ∙ (ap (option_and_then (λ z. option_and_then (binary_value (operator_of c) z) (value b before))) u.1
                  ∙ (ap (option_and_then (binary_value (operator_of c) u.0)) (b_same ∙ q.1) ∙ t.gives_first));
              fits = subst (λ z. takes_kind (declared x) z ≡ true) (sym t.kind) two.fits;
              made = refl;
            };
        second =
            record {
              v = two.v;
              is = by_a.gives (slice_set before x t.first)
                  ∙ (ap (option_and_then (λ z. option_and_then (binary_value (operator_of c) z) (value a (slice_set before x t.first))))
                  (get_set_same before x t.first there)
                  ∙ (ap (option_and_then (binary_value (operator_of c) t.first)) (unread_same a x t.first before not_a ∙ w.1) ∙ t.gives_second));
              fits = two.fits;
              made = set-set before x t.first two.v ∙ (sym (set-set before x one.v two.v) ∙ (ap (λ z. slice_set z x two.v) one.made ∙ two.made));
            };
      }

  one_swap : (x : ℕ) (e f : Expr) (before mid now : List Value) → Wrote x e before mid → Wrote x f mid now → (p q : Assignment) → Assigns x e p →
      Assigns x f q → MayPrecede (access_of_assignment x p) (access_of_assignment x q) → MayPrecede (access_of_assignment x q) (access_of_assignment x p) →
      OtherFirst x x e f before now
  one_swap x e f before mid now one two _ _ assigns_value assigns_value may may_too =
      ⊎_elim
      (λ same.
      let l = literal_from_same (literal_of (postorder e)) (literal_of (postorder f)) same in
      literal_swap x e f before mid now one two l.value
      (λ values. tree_value (postorder e) e values refl ∙ literal_value (postorder e) l.value values l.first)
      (λ values. tree_value (postorder f) f values refl ∙ literal_value (postorder f) l.value values l.second))
      (λ other. absurd (may.no_clash (two_inits x (literal_of (postorder e), refl) (literal_of (postorder f), refl) other)))
      (cases_Bool (same_literal (literal_of (postorder e)) (literal_of (postorder f))))
  one_swap x e f before mid now one two _ _ assigns_value (assigns_by c b by) may may_too =
      absurd (may_too.no_order (init_update x c (literal_of (postorder e), refl) refl))
  one_swap x e f before mid now one two _ _ (assigns_by c a by) assigns_value may may_too =
      absurd (may.no_order (init_update x c (literal_of (postorder f), refl) refl))
  one_swap x e f before mid now one two _ _ (assigns_by c a by_a) (assigns_by d b by_b) may may_too =
      ⊎_elim
      (λ same.
      update_swap x e f before mid now one two c a b by_a (subst (λ z. CombinesBy x f z b) (sym same) by_b)
      (λ h. may.no_order (update_read x d refl h)) (λ h. may_too.no_order (update_read x c refl h)))
      (λ differ. absurd (may.no_clash (two_updates x c d refl refl differ)))
      (one_combination c d)

  -- of two assignments that may stand in either order, the second may come first
  pub assignments_swap : (x y : ℕ) (e f : Expr) (before mid now : List Value) → Wrote x e before mid → Wrote y f mid now →
      MayPrecede (access x e) (access y f) → MayPrecede (access y f) (access x e) → OtherFirst x y e f before now
  assignments_swap x y e f before mid now one two may may_too =
      ⊎_elim (λ same. at_one same two may may_too) (λ ne. apart_swap x y e f before mid now ne one two may may_too) (same_or_not x y)
    where
      at_one : x ≡ y → Wrote y f mid now → MayPrecede (access x e) (access y f) → MayPrecede (access y f) (access x e) → OtherFirst x y e f before now
      at_one same =
          subst (λ z. Wrote z f mid now → MayPrecede (access x e) (access z f) → MayPrecede (access z f) (access x e) → OtherFirst x z e f before now) same
          (λ two may may_too.
          one_swap x e f before mid now one two (assignment_of x e) (assignment_of x f) (assigns e x) (assigns f x) may may_too)
