-- In a chart no trigger asks for the ticks since a state was entered: no variable has that number.
use Rattle.std.proofs.Common.{◌≡◌, ℕ, ◌+◌, ◌<◌, ◌≤◌, Bool, true, false, ◌||◌, nat_eq, Option, Some, None, List, [], ◌∷◌, map, length}
use Rattle.std.proofs.Common.{refl, sym, ap, ◌∙◌, arith, eqb-true, option_and_then}
use Rattle.std.specs.List.{list_any}
use Rattle.std.proofs.lemmas.Option.{slice_get_within}
use Rattle.sc_graph.specs.declared.program.Variable.{Variable}
use Rattle.sc_values.specs.declared.value.Kind.{Kind}
use Rattle.sc_values.specs.declared.value.Kind.TheVariants as of_kind
use Rattle.sc_values.specs.declared.expression.Expr.{Expr}
use Rattle.sc_values.specs.declared.expression.Expr.TheOpen as tree
use Rattle.sc_values.specs.declared.expression.Expr.TheViews.{roll-Expr}
use Rattle.sc_values.specs.declared.operator.BinaryOperator.{BinaryOperator}
use Rattle.sc_values.specs.Operator.{unary_kind, binary_kind}
use Rattle.sc_values.specs.Expr.{kind}
use Rattle.sc_values.specs.Assignment.{is_read, reads}
use Rattle.sc_values.proofs.Induction.{induct, kind-load, kind-unary, kind-binary}
use Rattle.sc_values.proofs.Loading.{loads-literal, loads-load, loads-unary, loads-binary}
use Rattle.std.proofs.lemmas.List.Folds.{list_any-append}
use Rattle.sc_text.specs.Parts.{IsExpression}
use Rattle.sc_text.proofs.EachItem.{Each, each_map}
use Rattle.core_charts.specs.Rules.{kinds_of}
use Rattle.core_charts.specs.declared.region.Transition.{Transition}
use Rattle.core_charts.specs.declared.region.Region.{Region}
use Rattle.core_charts.specs.declared.region.State.{State}
use Rattle.core_charts.specs.declared.region.Region.TheViews.{out-Region, out-State}
use Rattle.extended_charts.specs.Making.{one}
use Rattle.extended_charts.specs.Reading.{elapsed}
use Rattle.chart_reduction.specs.Clocks.{TimedRegion, TimedState, asks_time, ask_time, clocks_in, clocks_among, region_step, state_step, timed_region}
use Rattle.chart_reduction.specs.Clocks.{timed_state}
use Rattle.chart_reduction.specs.Laws.{of_region, of_state}
use Rattle.chart_reduction.proofs.ByRules.{Cases, Keeps}
use Rattle.extended_charts.proofs.Walks.{none_counted}
use Rattle.chart_reduction.proofs.PlainParts.{state_folded, region_folded, from_zero}

-- ---- a variable that there is not is not read

record Inner (f : Kind → Option Kind) (inside : Option Kind) (k : Kind) : Type 0 where
  pub kind_is : Kind
  pub inside_is : inside ≡ Some kind_is
  pub gives : f kind_is ≡ Some k

inner : (f : Kind → Option Kind) (inside : Option Kind) (k : Kind) → option_and_then f inside ≡ Some k → Inner f inside k
inner f None k h = absurd cc
inner f (Some m) k h = record { kind_is = m; inside_is = refl; gives = h }

abbrev IsUnread : Expr → Type 0
IsUnread e = (kinds : List Kind) (k : Kind) (x : ℕ) → kind e kinds ≡ Some k → length kinds ≤ x → is_read x e ≡ false

other_number : (x y : ℕ) → y < x → (nat_eq x y || false) ≡ false
other_number x y less = by (nat_eq x y) refl
  where
    by : (b : Bool) → nat_eq x y ≡ b → (nat_eq x y || false) ≡ false
    by true same = let equal : x ≡ y = eqb-true x y same in absurd (omega (arith, equal, less))
    by false other = ap (λ b. b || false) other

both_none : (a b : Bool) → a ≡ false → b ≡ false → (a || b) ≡ false
both_none a b h k = ap (λ c. c || b) h ∙ k

binary_unread : (f : BinaryOperator) (a b : Expr) → IsUnread a → IsUnread b → IsUnread (roll-Expr (tree.Binary f a b))
binary_unread f a b h g kinds k x is past =
    let left : Inner (λ m. option_and_then (binary_kind f m) (kind b kinds)) (kind a kinds) k =
    inner (λ m. option_and_then (binary_kind f m) (kind b kinds)) (kind a kinds) k (sym (kind-binary f a b kinds) ∙ is) in
    let right : Inner (binary_kind f left.kind_is) (kind b kinds) k = inner (binary_kind f left.kind_is) (kind b kinds) k left.gives in
    ap (list_any (nat_eq x)) (loads-binary f a b)
    ∙ list_any-append (nat_eq x) (reads a) (reads b)
    ∙ both_none (is_read x a) (is_read x b) (h kinds left.kind_is x left.inside_is past) (g kinds right.kind_is x right.inside_is past)

pub unread : (e : Expr) → IsUnread e
unread = induct IsUnread (record {
  of_literal = λ v kinds k x is past. ap (list_any (nat_eq x)) (loads-literal v);
  of_load = λ y kinds k x is past.
      ap (list_any (nat_eq x)) (loads-load y)
      ∙ other_number x y (let there : y < length kinds = slice_get_within kinds y k (sym (kind-load y kinds) ∙ is) in omega (arith, there, past));
  of_unary = λ f a h kinds k x is past.
      let inside : Inner (unary_kind f) (kind a kinds) k = inner (unary_kind f) (kind a kinds) k (sym (kind-unary f a kinds) ∙ is) in
      ap (list_any (nat_eq x)) (loads-unary f a) ∙ h kinds inside.kind_is x inside.inside_is past;
  of_binary = binary_unread;
})

trigger_unread : (kinds : List Kind) (trigger : Option Expr) → ((e : Expr) → trigger ≡ Some e → IsExpression kinds of_kind.Bool e) →
    length kinds ≤ elapsed → asks_time trigger ≡ false
trigger_unread kinds None h few = refl
trigger_unread kinds (Some e) h few = unread e kinds of_kind.Bool elapsed (h e refl).kinded few

-- ---- no state asks

module _ (variables : List Variable) (few : length (kinds_of variables) ≤ elapsed) where
  nobody_asks : (count : ℕ) (s : State) (transitions : List Transition) → Each (Keeps variables count s) transitions → ask_time transitions ≡ false
  nobody_asks count s [] rules = refl
  nobody_asks count s (t ∷ transitions) rules =
      both_none (asks_time t.trigger) (ask_time transitions) (trigger_unread (kinds_of variables) t.trigger rules.0.trigger few)
      (nobody_asks count s transitions rules.1)

  abbrev pub RegionUntimed : Region → Type 0
  RegionUntimed r = (timed_region (of_region r)).clocks ≡ 0

  abbrev pub StateUntimed : ℕ → State → Type 0
  StateUntimed count s = (timed_state (of_state s)).clocks ≡ 0

  pub no_clocks_in : (regions : List Region) → Each RegionUntimed regions → clocks_in (map timed_region (map of_region regions)) ≡ 0
  no_clocks_in regions h =
      none_counted timed_region (λ r. r.clocks) (map of_region regions) (each_map (λ r. (timed_region r).clocks ≡ 0) of_region regions h)

  no_clocks_among : (count : ℕ) (states : List State) → Each (StateUntimed count) states → clocks_among (map timed_state (map of_state states)) ≡ 0
  no_clocks_among count states h =
      none_counted timed_state (λ s. s.clocks) (map of_state states) (each_map (λ s. (timed_state s).clocks ≡ 0) of_state states h)

  pub nothing_timed : Cases variables RegionUntimed StateUntimed
  nothing_timed = record {
    of_state = λ count s rules inside.
        ap (λ t. t.clocks) (state_folded TimedRegion TimedState region_step state_step s)
        ∙ ap (λ b. one b + clocks_in (map timed_region (map of_region (out-State s).regions))) (nobody_asks count s (out-State s).transitions rules)
        ∙ from_zero (clocks_in (map timed_region (map of_region (out-State s).regions))) ∙ no_clocks_in (out-State s).regions inside;
    of_region = λ r inside.
        ap (λ t. t.clocks) (region_folded TimedRegion TimedState region_step state_step r)
        ∙ no_clocks_among (length (out-Region r).states) (out-Region r).states inside;
  }
