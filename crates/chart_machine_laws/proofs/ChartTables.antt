-- The table of a chart that keeps its rules is a tree.
use Rattle.std.proofs.Common.{◌≡◌, ℕ, zero, suc, ◌+◌, ◌<◌, ◌≤◌, ◌⊎◌, ⊎_elim, inl, inr, Bool, true, false, cond, Option, Some, List, [], ◌∷◌, map}
use Rattle.std.proofs.Common.{length, count_by, slice_get, unwrap_or, Contains, refl, sym, ap, subst, ◌∙◌, arith}
use Rattle.std.proofs.lemmas.List.Recursion.{is_count_by}
use Rattle.std.proofs.lemmas.Option.{slice_get_past}
use Rattle.sc_graph.specs.declared.program.Variable.{Variable}
use Rattle.core_charts.specs.declared.features.Features.{Features}
use Rattle.core_charts.specs.declared.region.Region.{Region}
use Rattle.core_charts.specs.declared.region.State.{State}
use Rattle.core_charts.specs.declared.region.Region.TheViews.{out-Region, out-State}
use Rattle.core_charts.specs.declared.region.Region.TheFolds.{fold_out-Region, fold_out-State}
use Rattle.core_charts.specs.Chart.{Chart}
use Rattle.core_charts.specs.Rules.{IsRegion, AreRegions, IsChart, depth_limit}
use Rattle.chart_machine.specs.declared.table.StateRow.{StateRow}
use Rattle.chart_machine.specs.declared.table.RegionRow.{RegionRow}
use Rattle.chart_machine.specs.declared.table.Table.{Table}
use Rattle.chart_machine.specs.Table.{Subtree, region_subtree, state_subtree, subtree_of_region, subtree_of_state, side_by_side}
use Rattle.chart_machine.specs.Table.{whole, table_of, table, state_at}
use Rattle.chart_machine.specs.Table.{region_at}
use Rattle.chart_machine.proofs.Outside.{within_or_past}
use Rattle.scl_graph_laws.proofs.Segments.{StandAt, stand_all, each_at}
use Rattle.chart_machine_laws.proofs.LyingIn.{IsTree, around, holder, none_in}
use Rattle.chart_machine_laws.proofs.RowsOfSubtrees.{StatesAt, RegionsAt, Holds, IsSized, AllSized, state_sized, region_sized}
use Rattle.chart_machine_laws.proofs.Children.{Kept, EachKept, RegionKeeps, StateKeeps, side_kept, state_keeps, region_keeps}
use Rattle.chart_machine_laws.proofs.TableTrees.{NoneInitial, OnceInitial, Rooted, EachUpward, RegionClimbs, StateClimbs, StateHeld, Each, side_climbs}
use Rattle.chart_machine_laws.proofs.TableTrees.{state_held, state_climbs, region_climbs}

-- ---- one initial state

abbrev pub is_first : State → Bool
is_first s = (out-State s).is_initial

abbrev pub count : List State → ℕ
count [] = 0
count (s ∷ states) = cond (is_first s) (1 + count states) (count states)

pub count_is : (states : List State) → count states ≡ count_by is_first states
count_is states = is_count_by count is_first refl (λ x ys. refl) states

pub first_is : (s : State) → (subtree_of_state s).is_initial ≡ is_first s
first_is s = ap (λ p. p.is_initial) (fold_out-State Subtree Subtree region_subtree state_subtree s)

none_if : (b : Bool) (n : ℕ) → cond b (1 + n) n ≡ 0 → (b ≡ false) × (n ≡ 0)
none_if true n e = absurd (omega (e, arith))
none_if false n e = (refl, e)

once_if : (b : Bool) (n : ℕ) → cond b (1 + n) n ≤ 1 → (b ≡ true → n ≡ 0) × (n ≤ 1)
once_if true n e = (λ same. omega (e, arith), omega (e, arith))
once_if false n e = (λ same. absurd cc, e)

none_initial : (states : List State) → count states ≡ 0 → NoneInitial (map subtree_of_state states)
none_initial [] e = tt
none_initial (s ∷ states) e = let both = none_if (is_first s) (count states) e in (first_is s ∙ both.0, none_initial states both.1)

pub once_initial : (states : List State) → count states ≤ 1 → OnceInitial (map subtree_of_state states)
once_initial [] e = tt
once_initial (s ∷ states) e =
    let both = once_if (is_first s) (count states) e in (λ first. none_initial states (both.0 (sym (first_is s) ∙ first)), once_initial states both.1)

-- ---- by how deep regions nest

pub record Grows (k : Table) (p : Subtree) : Type 0 where
  pub sized : IsSized p
  pub climbs : RegionClimbs k p
  pub keeps : RegionKeeps k p

pub record GrowsInside (k : Table) (p : Subtree) : Type 0 where
  pub sized : IsSized p
  pub held : StateHeld k p
  pub climbs : StateClimbs k p
  pub keeps : StateKeeps k p

module _ (k : Table) where
  all_sized : (pieces : List Subtree) → Each k (Grows k) pieces → AllSized pieces
  all_sized [] each = tt
  all_sized (p ∷ pieces) each = (each.0.sized, all_sized pieces each.1)

  all_climb : (pieces : List Subtree) → Each k (Grows k) pieces → Each k (RegionClimbs k) pieces
  all_climb [] each = tt
  all_climb (p ∷ pieces) each = (each.0.climbs, all_climb pieces each.1)

  all_sized_inside : (pieces : List Subtree) → Each k (GrowsInside k) pieces → AllSized pieces
  all_sized_inside [] each = tt
  all_sized_inside (p ∷ pieces) each = (each.0.sized, all_sized_inside pieces each.1)

  all_held : (pieces : List Subtree) → Each k (GrowsInside k) pieces → Each k (StateHeld k) pieces
  all_held [] each = tt
  all_held (p ∷ pieces) each = (each.0.held, all_held pieces each.1)

  all_climb_inside : (pieces : List Subtree) → Each k (GrowsInside k) pieces → Each k (StateClimbs k) pieces
  all_climb_inside [] each = tt
  all_climb_inside (p ∷ pieces) each = (each.0.climbs, all_climb_inside pieces each.1)

  all_keep : (pieces : List Subtree) → Each k (Grows k) pieces → Each k (RegionKeeps k) pieces
  all_keep [] each = tt
  all_keep (p ∷ pieces) each = (each.0.keeps, all_keep pieces each.1)

  all_keep_inside : (pieces : List Subtree) → Each k (GrowsInside k) pieces → Each k (StateKeeps k) pieces
  all_keep_inside [] each = tt
  all_keep_inside (p ∷ pieces) each = (each.0.keeps, all_keep_inside pieces each.1)

  state_grows : (s : State) → Each k (Grows k) (map subtree_of_region (out-State s).regions) → GrowsInside k (subtree_of_state s)
  state_grows s each =
      subst (GrowsInside k) (sym (fold_out-State Subtree Subtree region_subtree state_subtree s))
      (record {
        sized = state_sized (record {
          name = (out-State s).name;
          is_initial = (out-State s).is_initial;
          is_final = (out-State s).is_final;
          regions = map subtree_of_region (out-State s).regions;
          transitions = (out-State s).transitions;
        }) (all_sized (map subtree_of_region (out-State s).regions) each);
        held = state_held k (record {
          name = (out-State s).name;
          is_initial = (out-State s).is_initial;
          is_final = (out-State s).is_final;
          regions = map subtree_of_region (out-State s).regions;
          transitions = (out-State s).transitions;
        });
        climbs = state_climbs k (record {
          name = (out-State s).name;
          is_initial = (out-State s).is_initial;
          is_final = (out-State s).is_final;
          regions = map subtree_of_region (out-State s).regions;
          transitions = (out-State s).transitions;
        }) (all_sized (map subtree_of_region (out-State s).regions) each) (all_climb (map subtree_of_region (out-State s).regions) each);
        keeps = state_keeps k (record {
          name = (out-State s).name;
          is_initial = (out-State s).is_initial;
          is_final = (out-State s).is_final;
          regions = map subtree_of_region (out-State s).regions;
          transitions = (out-State s).transitions;
        }) (all_sized (map subtree_of_region (out-State s).regions) each) (all_keep (map subtree_of_region (out-State s).regions) each);
      })

  region_grows : (r : Region) → count_by is_first (out-Region r).states ≡ 1 → Each k (GrowsInside k) (map subtree_of_state (out-Region r).states) →
      Grows k (subtree_of_region r)
  region_grows r one each =
      subst (Grows k) (sym (fold_out-Region Subtree Subtree region_subtree state_subtree r))
      (record {
        sized = region_sized (record { name = (out-Region r).name; states = map subtree_of_state (out-Region r).states }) (all_sized_inside (map
            subtree_of_state (out-Region r).states) each);
        climbs =
            region_climbs k (record { name = (out-Region r).name; states = map subtree_of_state (out-Region r).states })
            (once_initial (out-Region r).states (omega (count_is (out-Region r).states, one, arith)))
            (all_sized_inside (map subtree_of_state (out-Region r).states) each) (all_held (map subtree_of_state (out-Region r).states) each)
            (all_climb_inside (map subtree_of_state (out-Region r).states) each);
        keeps =
            region_keeps k (record { name = (out-Region r).name; states = map subtree_of_state (out-Region r).states })
            (once_initial (out-Region r).states (omega (count_is (out-Region r).states, one, arith)))
            (all_sized_inside (map subtree_of_state (out-Region r).states) each) (all_keep_inside (map subtree_of_state (out-Region r).states) each);
      })

  each_of : {A : Type 0} (f : A → Subtree) (P : Subtree → Type 0) (xs : List A) → ((i : ℕ) (x : A) → slice_get xs i ≡ Some x → P (f x)) → Each k P (map f xs)
  each_of f P [] h = tt
  each_of f P (x ∷ xs) h = (h 0 x refl, each_of f P xs (λ i y at. h (suc i) y at))

  pub regions_grow : (f : Features) (variables : List Variable) (levels : ℕ) (regions : List Region) → AreRegions f variables levels regions →
      Each k (Grows k) (map subtree_of_region regions)
  regions_grow f variables zero regions rules = subst (λ rs. Each k (Grows k) (map subtree_of_region rs)) (sym rules) tt
  regions_grow f variables (suc levels) regions rules =
      each_of subtree_of_region (Grows k) regions
      (λ i r at.
      let region : IsRegion f variables (AreRegions f variables levels) r = rules.each i r at in
      region_grows r region.one_initial
      (each_of subtree_of_state (GrowsInside k) (out-Region r).states
      (λ j s is. state_grows s (regions_grow f variables levels (out-State s).regions (region.states j s is).regions))))

-- ---- the table

states_stand : (k : Table) (n : ℕ) (xs : List StateRow) → StandAt k.states n xs → StatesAt k n xs
states_stand k n [] h = tt
states_stand k n (x ∷ xs) h = (
  ap (λ o. unwrap_or o (record { holder = 0; regions = []; transitions = []; entered = []; opened = [] })) h.0,
  states_stand k (suc n) xs h.1,
)

regions_stand : (k : Table) (n : ℕ) (xs : List RegionRow) → StandAt k.regions n xs → RegionsAt k (suc n) xs
regions_stand k n [] h = tt
regions_stand k n (x ∷ xs) h = (ap (λ o. unwrap_or o (record { around = []; states = [] })) h.0, regions_stand k (suc n) xs h.1)

pub holds_whole : (variables : List Variable) (regions : List Region) →
    Holds (table_of variables regions) whole (side_by_side (map subtree_of_region regions) whole)
holds_whole variables regions =
    let k : Table = table_of variables regions in
    record { states = states_stand k 0 k.states (stand_all k.states); regions = regions_stand k 0 k.regions (stand_all k.regions) }

pub row_there : (xs : List RegionRow) (i : ℕ) → i < length xs → (x : RegionRow) × (slice_get xs i ≡ Some x)
row_there [] i lt = absurd (omega (lt, arith))
row_there (x ∷ xs) zero lt = (x, refl)
row_there (x ∷ xs) (suc i) lt = row_there xs i (omega (lt, arith))

pub nothing_around : (k : Table) (i : ℕ) → length k.regions ≤ i → around k (suc i) ≡ []
nothing_around k i past = ap (λ (o : Option RegionRow). (unwrap_or {T = RegionRow} o (record { around = []; states = [] })).around) (slice_get_past
    k.regions i past)

pub no_states_past : (k : Table) (i : ℕ) → length k.regions ≤ i → (region_at k (suc i)).states ≡ []
no_states_past k i past = ap (λ (o : Option RegionRow). (unwrap_or {T = RegionRow} o (record { around = []; states = [] })).states) (slice_get_past
    k.regions i past)

one_more : (i : ℕ) → 1 + i ≡ suc i
one_more i = omega arith

each_rooted : (k : Table) → EachUpward k 1 k.regions → (q : ℕ) → Rooted k q
each_rooted k each zero = (λ s ss e. absurd cc, λ s h. absurd (none_in s h), λ s h. absurd (none_in s h))
each_rooted k each (suc i) = by_place (within_or_past i (length k.regions))
  where
    by_place : (i < length k.regions) ⊎ (length k.regions ≤ i) → Rooted k (suc i)
    by_place (inl lt) = let x = row_there k.regions i lt in subst (λ q. Rooted k q) (one_more i) (each_at (λ q row. Rooted k q) 1 k.regions i x.0 each x.1)
    by_place (inr past) = (
      λ s ss e. let none : [] ≡ s ∷ ss = sym (nothing_around k i past) ∙ e in absurd cc,
      λ s h. absurd (none_in s (subst (λ zs. Contains zs s) (nothing_around k i past) h)),
      λ s h. absurd (none_in s (subst (λ zs. Contains zs s) (no_states_past k i past) h)),
    )

table_rooted : (f : Features) (variables : List Variable) (levels : ℕ) (regions : List Region) → AreRegions f variables levels regions → (q : ℕ) →
    Rooted (table_of variables regions) q
table_rooted f variables levels regions rules =
    let k : Table = table_of variables regions in
    let pieces : List Subtree = map subtree_of_region regions in
    let grow : Each k (Grows k) pieces = regions_grow k f variables levels regions rules in
    each_rooted k (side_climbs k pieces whole (all_sized k pieces grow) (all_climb k pieces grow) (holds_whole variables regions) (λ q here s ss e. absurd (cc))
    (λ s h. absurd (none_in s h)))

-- who holds a superstate around a region has a smaller number than the region
pub chart_is_deeper : (f : Features) (c : Chart) → IsChart f c → (q s : ℕ) → Contains (around (table c) q) s → holder (table c) s < q
chart_is_deeper f c rules q = (table_rooted f c.variables depth_limit c.regions rules.regions q).1

-- ---- the regions of a superstate have it around them

there_state : (xs : List StateRow) (i : ℕ) → i < length xs → (x : StateRow) × (slice_get xs i ≡ Some x)
there_state [] i lt = absurd (omega (lt, arith))
there_state (x ∷ xs) zero lt = (x, refl)
there_state (x ∷ xs) (suc i) lt = there_state xs i (omega (lt, arith))

pub no_regions_past : (k : Table) (s : ℕ) → length k.states ≤ s → (state_at k s).regions ≡ []
no_regions_past k s past =
    ap (λ (o : Option StateRow). (unwrap_or {T = StateRow} o (record { holder = 0; regions = []; transitions = []; entered = []; opened = [] })).regions)
    (slice_get_past k.states s past)

from_none : (s : ℕ) → 0 + s ≡ s
from_none s = omega arith

each_kept : (k : Table) → EachKept k 0 k.states → (s : ℕ) → s < length k.states → (row : StateRow) × Kept k s row
each_kept k each s lt = let x = there_state k.states s lt in (x.0, subst (λ z. Kept k z x.0) (from_none s) (each_at (Kept k) 0 k.states s x.0 each x.1))

table_kept : (f : Features) (variables : List Variable) (levels : ℕ) (regions : List Region) → AreRegions f variables levels regions →
    EachKept (table_of variables regions) 0 (table_of variables regions).states
table_kept f variables levels regions rules =
    let k : Table = table_of variables regions in
    let pieces : List Subtree = map subtree_of_region regions in
    let grow : Each k (Grows k) pieces = regions_grow k f variables levels regions rules in
    side_kept k pieces whole (all_sized k pieces grow) (all_keep k pieces grow) (holds_whole variables regions)

pub table_children : (f : Features) (variables : List Variable) (levels : ℕ) (regions : List Region) → AreRegions f variables levels regions →
    (s r : ℕ) → Contains (state_at (table_of variables regions) s).regions r →
    around (table_of variables regions) r ≡ s ∷ around (table_of variables regions) (holder (table_of variables regions) s)
table_children f variables levels regions rules s r h = by_place (within_or_past s (length k.states))
  where
    k : Table
    k = table_of variables regions

    by_place : (s < length k.states) ⊎ (length k.states ≤ s) → around k r ≡ s ∷ around k (holder k s)
    by_place (inl lt) =
        let x = each_kept k (table_kept f variables levels regions rules) s lt in
        x.1.child r (subst (λ z. Contains z.regions r) x.1.row_is h) ∙ ap (λ z. s ∷ around k z.holder) (sym x.1.row_is)
    by_place (inr past) = absurd (none_in r (subst (λ zs. Contains zs r) (no_regions_past k s past) h))

pub chart_children : (f : Features) (c : Chart) → IsChart f c → (s r : ℕ) → Contains (state_at (table c) s).regions r →
    around (table c) r ≡ s ∷ around (table c) (holder (table c) s)
chart_children f c rules s r h = table_children f c.variables depth_limit c.regions rules.regions s r h

chart_holds : (f : Features) (c : Chart) → IsChart f c → (s : ℕ) → s < length (table c).states → Contains (region_at (table c) (holder (table c) s)).states s
chart_holds f c rules s lt =
    let x = each_kept (table c) (table_kept f c.variables depth_limit c.regions rules.regions) s lt in
    subst (λ z. Contains (region_at (table c) z.holder).states s) (sym x.1.row_is) x.1.held

pub chart_is_tree : (f : Features) (c : Chart) → IsChart f c → IsTree (table c)
chart_is_tree f c rules = record {
  nested = record { upward = λ q s ss e. ((table_rooted f c.variables depth_limit c.regions rules.regions q).0 s ss e).0 };
  innermost = λ q s ss e. ((table_rooted f c.variables depth_limit c.regions rules.regions q).0 s ss e).1;
  children = chart_children f c rules;
  held = λ r. (table_rooted f c.variables depth_limit c.regions rules.regions r).2;
  holds = chart_holds f c rules;
  deeper = chart_is_deeper f c rules;
}

-- what has something around it is a region of the table
pub around_there : (k : Table) (t s : ℕ) → Contains (around k t) s → (0 < t) × (t < suc (length k.regions))
around_there k zero s h = absurd (none_in s h)
around_there k (suc j) s h =
    ⊎_elim (λ lt. (omega arith, omega (lt, arith))) (λ past. absurd (none_in s (subst (λ zs. Contains zs s) (nothing_around k j past) h))) (within_or_past
    j (length k.regions))
