-- What an expression that has a value reads is there; and what a step of a chart gives.
use Rattle.std.proofs.Common.{◌≡◌, ◌≢◌, ℕ, ◌<◌, ◌⊎◌, inl, inr, ⊎_elim, Bool, true, false, not, ◌&&◌, Option, Some, None, List, [], ◌∷◌, ◌++◌}
use Rattle.std.proofs.Common.{length, option_and_then, Contains, sym, subst, ◌∙◌, arith}
use Rattle.std.proofs.lemmas.Option.{slice_get_within}
use Rattle.std.specs.Prelude.{option_map}
use Rattle.std.proofs.lemmas.Bool.{and_parts, not-true}
use Rattle.sc_values.specs.declared.value.Value.{Value}
use Rattle.sc_values.specs.declared.operator.BinaryOperator.{BinaryOperator}
use Rattle.sc_values.specs.declared.operator.UnaryOperator.{UnaryOperator}
use Rattle.sc_values.specs.declared.expression.Expr.{Expr}
use Rattle.sc_values.specs.declared.expression.Expr.TheOpen as tree
use Rattle.sc_values.specs.declared.expression.Expr.TheViews.{roll-Expr}
use Rattle.sc_values.specs.Operator.{unary_value, binary_value}
use Rattle.sc_values.specs.Expr.{value}
use Rattle.sc_values.specs.Assignment.{reads}
use Rattle.sc_values.proofs.Induction.{induct, value-load, value-unary, value-binary}
use Rattle.sc_values.proofs.Loading.{loads-literal, loads-load, loads-unary, loads-binary}
use Rattle.chart_machine.specs.declared.region_change.RegionChange.{RegionChange}
use Rattle.chart_machine.specs.declared.standing.Standing.TheVariants as at
use Rattle.chart_machine.specs.declared.standing.Configuration.{Configuration}
use Rattle.chart_machine.specs.declared.table.Table.{Table}
use Rattle.chart_machine.specs.Turns.{standing_of, has_work, is_guarded, inside_is_done, is_enabled}
use Rattle.chart_machine.specs.Steps.{truth, verdict, after, change_of, step, access_of_trigger}
use Rattle.tick_laws.proofs.Lists.{map_some}
use Rattle.tick_laws.proofs.Views.{only_if_some}
use Rattle.abort_expansion_laws.specs.Stages.{Touches}
use Rattle.chart_machine_laws.proofs.LyingIn.{around, none_in, head_or_tail, tail_in, head_in}
use Rattle.abort_expansion_laws.proofs.TablesCorrespond.{IsThere}
use Rattle.abort_expansion_laws.proofs.MoreValues.{Got, got}
use Rattle.abort_expansion_laws.specs.CoreRows.{Images}
use Rattle.abort_expansion_laws.specs.Related.{Related}
use Rattle.abort_expansion_laws.proofs.NumberedRegions.{is_region}

pub in_either : (xs ys : List ℕ) (x : ℕ) → Contains (xs ++ ys) x → Contains xs x ⊎ Contains ys x
in_either [] ys x h = inr h
in_either (z ∷ xs) ys x h =
    ⊎_elim (λ same. inl (subst (Contains (z ∷ xs)) same (head_in z xs)))
    (λ tail. ⊎_elim (λ first. inl (tail_in z x xs first)) (λ second. inr second) (in_either xs ys x tail)) (head_or_tail z x (xs ++ ys) h)

abbrev Known : Expr → Type 0
Known e = (values : List Value) (v : Value) → value e values ≡ Some v → (x : ℕ) → Contains (reads e) x → x < length values

known_binary : (f : BinaryOperator) (a b : Expr) → Known a → Known b → Known (roll-Expr (tree.Binary f a b))
known_binary f a b h g values v is x inner =
    let Left : Value → Option Value = λ m. option_and_then (binary_value f m) (value b values) in
    let left : Got Left (value a values) v = got Left (value a values) v (sym (value-binary f a b values) ∙ is) in
    let right : Got (binary_value f left.item) (value b values) v = got (binary_value f left.item) (value b values) v left.gives in
    ⊎_elim (λ first. h values left.item left.is x first) (λ second. g values right.item right.is x second)
    (in_either (reads a) (reads b) x (subst (λ zs. Contains zs x) (loads-binary f a b) inner))

known_unary : (f : UnaryOperator) (a : Expr) → Known a → Known (roll-Expr (tree.Unary f a))
known_unary f a h values v is x inner =
    let one : Got (unary_value f) (value a values) v = got (unary_value f) (value a values) v (sym (value-unary f a values) ∙ is) in
    h values one.item one.is x (subst (λ zs. Contains zs x) (loads-unary f a) inner)

known_load : (y : ℕ) → Known (roll-Expr (tree.Load y))
known_load y values v is x inner =
    ⊎_elim (λ same. subst (λ z. z < length values) same (slice_get_within values y v (sym (value-load y values) ∙ is)))
    (λ none. absurd (none_in x none)) (head_or_tail y x [] (subst (λ zs. Contains zs x) (loads-load y) inner))

pub known : (e : Expr) → Known e
known = induct Known (record {
  of_literal = λ w values v is x inner. absurd (none_in x (subst (λ zs. Contains zs x) (loads-literal w) inner));
  of_load = known_load;
  of_unary = known_unary;
  of_binary = known_binary;
})

-- a test that comes out touches only variables that are there
pub trigger_known : (values : List Value) (trigger : Option Expr) (b : Bool) → verdict values trigger ≡ Some b → (x : ℕ) →
    Touches (access_of_trigger trigger) x → x < length values
trigger_known values None b is x (inl r) = absurd (none_in x r)
trigger_known values None b is x (inr (inl w)) = let e = w.1 in absurd cc
trigger_known values None b is x (inr (inr w)) = let e = w.1 in absurd cc
trigger_known values (Some e) b is x (inl r) = let one : Got truth (value e values) b = got truth (value e values) b is in known e values one.item one.is x r
trigger_known values (Some e) b is x (inr (inl w)) = let e = w.1 in absurd cc
trigger_known values (Some e) b is x (inr (inr w)) = let e = w.1 in absurd cc

-- ---- a step of a chart, taken apart

pub record Stepped (k : Table) (r : ℕ) (c next : Configuration) : Type 0 where
  pub works : has_work k c (standing_of c r) ≡ true
  pub free : is_guarded k c (around k r) ≡ false
  pub done : inside_is_done k c (standing_of c r) ≡ true
  pub change : RegionChange
  pub does : change_of k c r (standing_of c r) ≡ Some change
  pub is : after change c ≡ next

pub stepped : (k : Table) (r : ℕ) (c next : Configuration) → step k r c ≡ Some next → Stepped k r c next
stepped k r c next h =
    let parts = only_if_some (is_enabled k c r) (option_map (λ d. after d c) (change_of k c r (standing_of c r))) next h in
    let change = map_some (λ d. after d c) (change_of k c r (standing_of c r)) next parts.1 in
    let on = and_parts (has_work k c (standing_of c r)) (not (is_guarded k c (around k r)) && inside_is_done k c (standing_of c r)) parts.0 in
    let two = and_parts (not (is_guarded k c (around k r))) (inside_is_done k c (standing_of c r)) on.1 in
    record { works = on.0; free = not-true (is_guarded k c (around k r)) two.0; done = two.1; change = change.0; does = change.1; is = change.2 }

-- whoever stands somewhere is a region of the table
pub present_there : (k core : Table) (i : Images) (c d : Configuration) → Related k core i c d → (r : ℕ) → standing_of c r ≢ at.Outside → IsThere k r
present_there k core i c d related = is_region k c related.no_chart related.chart_regions
