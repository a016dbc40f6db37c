-- A transition enters a final state: the counter around its region holds how many regions are left, and nothing else changes.
use Rattle.std.proofs.Common.{◌≡◌, ◌≢◌, ℕ, suc, pos, ◌+◌, ◌<◌, ◌≤◌, inl, inr, ⊎_elim, Bool, true, false, Option, Some, None, List, [], ◌∷◌, ◌++◌, length}
use Rattle.std.proofs.Common.{slice_get, slice_set, Contains, refl, sym, ap, subst, ◌∙◌, arith, if◌then◌else◌}
use Rattle.std.proofs.lemmas.Option.{same_Some}
use Rattle.sc_values.specs.declared.value.Value.{Value}
use Rattle.sc_values.specs.declared.value.Value.TheVariants as value_is
use Rattle.sc_values.specs.Expr.{value as value_of}
use Rattle.core_charts.specs.declared.region.Effect.{Effect}
use Rattle.chart_machine.specs.declared.standing.Standing.TheVariants as at
use Rattle.chart_machine.specs.declared.standing.Configuration.{Configuration}
use Rattle.chart_machine.specs.declared.table.Table.{Table}
use Rattle.chart_machine.specs.Table.{state_at}
use Rattle.chart_machine.specs.Turns.{standing_of, has_ended}
use Rattle.chart_machine.specs.Steps.{state_in}
use Rattle.abort_expansion.specs.Transitions.{count_down}
use Rattle.tick_laws.proofs.Lists.{contained}
use Rattle.chart_machine_laws.specs.Tree.{around, holder}
use Rattle.chart_machine_laws.proofs.LyingIn.{head_in, tail_in}
use Rattle.abort_expansion_laws.specs.CoreRows.{is_final, Images, counter_over}
use Rattle.abort_expansion_laws.specs.Related.{Related, FlagsAreDown, Stores, still_in}
use Rattle.abort_expansion_laws.proofs.Unchanged.{get_same, get_other}
use Rattle.abort_expansion_laws.proofs.EffectFollowed.{value_size}
use Rattle.abort_expansion_laws.proofs.Owed.{Counts}
use Rattle.abort_expansion_laws.proofs.CounterValues.{counted_value}
use Rattle.abort_expansion_laws.proofs.StartingRegions.{Once, CounterRows, set_behind}
use Rattle.abort_expansion_laws.proofs.JustEntered.{EntryRows}
use Rattle.abort_expansion_laws.proofs.FinalTarget as target

module _ (k core : Table) (i : Images) (more : EntryRows k core i) (counts : ℕ → Bool) (written_at : ℕ → ℕ)
    (counters : CounterRows k core i more.rows counts written_at)
    (c d : Configuration) (related : Related k core i c d) (r s p : ℕ) (e : Effect)
    (stands : standing_of c r ≡ at.Acting s (e ∷ []) p) (values : List Value) (final : is_final k (state_in k r p) ≡ true)
    (counted : Counts k core i true (counter_over k core i (around k r)) d.variables values) where
  abbrev next : Configuration
  next = target.next k core i more c d related r s p e stands values final

  elsewhere : (q : ℕ) → q ≢ r → standing_of next q ≡ standing_of c q
  elsewhere q ne = target.elsewhere k core i more c d related r s p e stands values final q ne

  abbrev children_of : ℕ → List ℕ
  children_of u = (state_at k u).regions

  abbrev left_in : ℕ → ℕ
  left_in u = still_in k core i next (children_of u)

  -- ---- one region less is left

  same_many : (rs : List ℕ) → ¬ Contains rs r → still_in k core i next rs ≡ still_in k core i c rs
  same_many [] out = refl
  same_many (q ∷ rs) out =
      let first : has_ended (standing_of next q) ≡ has_ended (standing_of c q) =
      ap has_ended (elsewhere q (λ w. out (subst (Contains (q ∷ rs)) w (head_in q rs)))) in
      let rest = same_many rs (λ h. out (tail_in q r rs h)) in rw (first, rest) refl

  one_less : (rs : List ℕ) → Once r rs → still_in k core i c rs ≡ suc (still_in k core i next rs)
  one_less [] once = absurd once
  one_less (q ∷ rs) (inl (is, out)) =
      let was : has_ended (standing_of c q) ≡ false = ap (λ z. has_ended (standing_of c z)) is ∙ ap has_ended stands in
      let now : has_ended (standing_of next q) ≡ true =
      ap (λ z. has_ended (standing_of next z)) is ∙ ap has_ended (target.here k core i more c d related r s p e stands values final) in
      let rest = same_many rs out in rw (was, now, rest) (omega arith)
  one_less (q ∷ rs) (inr (ne, once)) =
      let rest = one_less rs once in
      let own_one : has_ended (standing_of next q) ≡ has_ended (standing_of c q) = ap has_ended (elsewhere q ne) in
      rw (own_one, rest) (one_more (if has_ended (standing_of c q) then 0 else 1) (still_in k core i next rs))
    where
      one_more : (a b : ℕ) → a + suc b ≡ suc (a + b)
      one_more a b = omega arith

  at_most : (rs : List ℕ) → still_in k core i next rs ≤ length rs
  at_most [] = omega arith
  at_most (q ∷ rs) = one_or_none (has_ended (standing_of next q)) (still_in k core i next rs) (length rs) (at_most rs)
    where
      one_or_none : (b : Bool) (n l : ℕ) → n ≤ l → (if b then 0 else 1) + n ≤ suc l
      one_or_none true n l le = omega (le, arith)
      one_or_none false n l le = omega (le, arith)

  one_parent : (u v : ℕ) → Contains (children_of u) r → Contains (children_of v) r → u ≡ v
  one_parent u v in_u in_v =
      let both : u ∷ around k (holder k u) ≡ v ∷ around k (holder k v) = sym (more.tree.children u r in_u) ∙ more.tree.children v r in_v in cc

  -- ---- what becomes of the variables

  data Counted : Type 0 where
    uncounted : values ≡ d.variables → ((u : ℕ) → Contains (children_of u) r → (i.flags_of u).counter ≡ None) → Counted
    counted_by : (u y : ℕ) → Contains (children_of u) r → (i.flags_of u).counter ≡ Some y →
        values ≡ slice_set d.variables y (value_is.Int (pos (left_in u))) → Counted

  by_round : (zs : List ℕ) → around k r ≡ zs → Counted
  by_round [] round =
      uncounted (subst (λ zs. Counts k core i true (counter_over k core i zs) d.variables values) round counted)
      (λ u child. let wrong : [] ≡ u ∷ around k (holder k u) = sym round ∙ more.tree.children u r child in absurd cc)
  by_round (u ∷ us) round = by_counter (i.flags_of u).counter refl
    where
      child : Contains (children_of u) r
      child = more.tree.innermost r u us round

      in_u : Contains (around k r) u
      in_u = subst (λ zs. Contains zs u) (sym round) (head_in u us)

      counted_here : Counts k core i true (i.flags_of u).counter d.variables values
      counted_here = subst (λ zs. Counts k core i true (counter_over k core i zs) d.variables values) round counted

      down : FlagsAreDown k core i c d.variables u
      down =
          related.flags u (more.super_around r u in_u).0
          (related.enclosed r u (target.there k core i more c d related r s p e stands values final)
          (target.was_there k core i more c d related r s p e stands values final) in_u)

      few : left_in u < 2147483648
      few = let top = at_most (children_of u) in let bound = counters.few u in omega (top, bound, arith)

      fewer : still_in k core i c (children_of u) ≡ suc (left_in u)
      fewer = one_less (children_of u) (more.once r u us (target.there k core i more c d related r s p e stands values final) round)

      by_counter : (o : Option ℕ) → (i.flags_of u).counter ≡ o → Counted
      by_counter None is =
          uncounted (subst (λ o. Counts k core i true o d.variables values) is counted_here)
          (λ v in_v. ap (λ z. (i.flags_of z).counter) (one_parent v u in_v child) ∙ is)
      by_counter (Some y) is =
          let its : (v : Value) × (value_of (count_down y).value d.variables ≡ Some v) × (values ≡ slice_set d.variables y v) =
          subst (λ o. Counts k core i true o d.variables values) is counted_here in
          let stored : slice_get d.variables y ≡ Some (value_is.Int (pos (suc (left_in u)))) =
          subst (λ o. Stores k core i d.variables o (suc (left_in u))) is
          (subst (Stores k core i d.variables (i.flags_of u).counter) fewer down.counter) in
          let same : its.0 ≡ value_is.Int (pos (left_in u)) =
          same_Some its.0 (value_is.Int (pos (left_in u))) (sym its.1 ∙ counted_value y (left_in u) d.variables few stored) in
          counted_by u y child is (its.2 ∙ ap (slice_set d.variables y) same)

  now : Counted
  now = by_round (around k r) refl

  pub added : (zs : List Value) × (values ≡ c.variables ++ zs)
  added = by_counted now
    where
      by_counted : Counted → (zs : List Value) × (values ≡ c.variables ++ zs)
      by_counted (uncounted same none) = (related.more, same ∙ related.variables)
      by_counted (counted_by u y child is set) =
          let b = set_behind c.variables related.more y (value_is.Int (pos (left_in u)))
          (let le = more.rows.counter_added u y is in let size = related.values in omega (le, size, arith)) in
          (b.0, set ∙ (ap (λ vs. slice_set vs y (value_is.Int (pos (left_in u)))) related.variables ∙ b.1))

  pub as_long : length values ≡ length d.variables
  as_long = by_counted now
    where
      by_counted : Counted → length values ≡ length d.variables
      by_counted (uncounted same none) = ap length same
      by_counted (counted_by u y child is set) = ap length set ∙ value_size d.variables y (value_is.Int (pos (left_in u)))

  -- ---- flags stay, and each counter holds what is left

  other_stored : (y : ℕ) (v : Value) (o : Option ℕ) (n : ℕ) → ((z : ℕ) → o ≡ Some z → z ≢ y) → Stores k core i d.variables o n →
      Stores k core i (slice_set d.variables y v) o n
  other_stored y v None n differ stores = tt
  other_stored y v (Some z) n differ stores = get_other d.variables y z v (differ z refl) ∙ stores

  pub flag_stored : (o : Option ℕ) (n : ℕ) → ((z : ℕ) → o ≡ Some z → counts z ≡ false) → Stores k core i d.variables o n → Stores k core i values o n
  flag_stored o n flags stores = by_counted now
    where
      by_counted : Counted → Stores k core i values o n
      by_counted (uncounted same none) = subst (λ vs. Stores k core i vs o n) (sym same) stores
      by_counted (counted_by u y child is set) =
          subst (λ vs. Stores k core i vs o n) (sym set)
          (other_stored y (value_is.Int (pos (left_in u))) o n
          (λ z its same.
          let wrong : true ≡ false = sym (counters.counter_counts u y is) ∙ (ap counts (sym same) ∙ flags z its) in absurd cc) stores)

  pub counter_stored : (u : ℕ) → FlagsAreDown k core i c d.variables u → Stores k core i values (i.flags_of u).counter (left_in u)
  counter_stored u down =
      ⊎_elim (λ child. inner child now)
      (λ out. subst (Stores k core i values (i.flags_of u).counter) (sym (same_many (children_of u) out)) (outer out now))
      (contained (children_of u) r)
    where
      inner : Contains (children_of u) r → Counted → Stores k core i values (i.flags_of u).counter (left_in u)
      inner child (uncounted same none) = subst (λ o. Stores k core i values o (left_in u)) (sym (none u child)) tt
      inner child (counted_by v y in_v is set) =
          let in_core : y < length d.variables =
          let lt = counters.counter_there v y is in let size = related.flag_count in omega (lt, size, arith) in
          subst (λ z. Stores k core i values (i.flags_of z).counter (left_in z)) (sym (one_parent u v child in_v))
          (subst (λ o. Stores k core i values o (left_in v)) (sym is)
          (ap (λ vs. slice_get vs y) set ∙ get_same d.variables y (value_is.Int (pos (left_in v))) in_core))

      outer : ¬ Contains (children_of u) r → Counted → Stores k core i values (i.flags_of u).counter (still_in k core i c (children_of u))
      outer out (uncounted same none) =
          subst (λ vs. Stores k core i vs (i.flags_of u).counter (still_in k core i c (children_of u))) (sym same) down.counter
      outer out (counted_by v y in_v is set) =
          subst (λ vs. Stores k core i vs (i.flags_of u).counter (still_in k core i c (children_of u))) (sym set)
          (other_stored y (value_is.Int (pos (left_in v))) (i.flags_of u).counter (still_in k core i c (children_of u))
          (λ z its same.
          out (subst (λ w. Contains (children_of w) r)
          (sym (counters.counter_of v y is) ∙ (ap more.rows.of_flag (sym same) ∙ counters.counter_of u z its)) in_v)) down.counter)
