-- The table of each expanded chart has the rows that the simulation takes of it.
use Rattle.std.proofs.Common.{◌≡◌, ℕ, zero, suc, ◌+◌, ◌<◌, ◌≤◌, ◌⊎◌, inl, inr, ⊎_elim}
use Rattle.std.proofs.Common.{Bool, true, false, ◌||◌, Some, None, List, [], ◌∷◌}
use Rattle.std.proofs.Common.{map, length, slice_get, unwrap_or, Contains, refl, sym, ap, subst, ◌∙◌, arith}
use Rattle.std.proofs.lemmas.Option.{same_Some}
use Rattle.core_charts.specs.declared.features.Features.TheVariants as features
use Rattle.core_charts.specs.Chart.{Chart}
use Rattle.core_charts.specs.Rules.{IsChart}
use Rattle.core_charts.specs.declared.region.Transition.{Transition}
use Rattle.core_charts.specs.Tests.{strong_aborts, weak_aborts, is_strong, is_weak}
use Rattle.chart_machine.specs.declared.table.Table.{Table}
use Rattle.chart_machine.specs.Table.{table}
use Rattle.chart_machine.specs.Steps.{state_in}
use Rattle.chart_machine.proofs.Outside.{within_or_past}
use Rattle.chart_machine_laws.specs.Tree.{IsThere, IsTree, around, holder}
use Rattle.chart_machine_laws.proofs.LyingIn.{none_in, head_or_tail}
use Rattle.chart_machine_laws.proofs.ChartTables.{chart_is_tree, nothing_around, no_regions_past, no_states_past}
use Rattle.abort_expansion.specs.Flags.{counts, one, flags_of, weak_around}
use Rattle.core_charts.specs.Aborts.{has_strong, has_weak, has_aborts}
use Rattle.abort_expansion.specs.Expansion.{expanded, expansion}
use Rattle.abort_expansion_laws.specs.CoreRows.{own, IsState, IsSuper, Images, flags_around, CoreRows}
use Rattle.abort_expansion_laws.specs.CoreRows.{WatcherImage}
use Rattle.abort_expansion_laws.proofs.Walked.{World, images_of, RegionFits, StateFits, FlagsFit, Origin, thread, watcher, OwnerFits}
use Rattle.abort_expansion_laws.proofs.Walked.{thread_by, IsFlag, CoreSort}
use Rattle.abort_expansion_laws.proofs.WalkedWhole.{world, facts, chart_size, core_size, image_past, owner_else}
use Rattle.abort_expansion_laws.proofs.TableEnds.{first_state, no_holder_past, no_entered_past, any_first}
use Rattle.abort_expansion_laws.proofs.TableEnds.{given_some, given_is}
use Rattle.abort_expansion_laws.proofs.NumberedRegions.{super_is_state}
use Rattle.tick_laws.proofs.Lists.{contains_map}

module _ (c : Chart) (rules : IsChart features.Extended c) (core_rules : IsChart features.Core (expanded c)) where
  abbrev k : Table
  k = table c

  abbrev core : Table
  core = table (expanded c)

  abbrev w : World
  w = world c rules

  abbrev pub i : Images
  i = images_of w

  pub tree : IsTree k
  tree = chart_is_tree features.Extended c rules

  pub core_tree : IsTree core
  core_tree = chart_is_tree features.Core (expanded c) core_rules

  pub state_fits : (s : ℕ) → IsState k s → StateFits w s
  state_fits s lt = (facts c rules).states s (omega arith) (omega (lt, chart_size c rules, arith))

  region_fits : (r : ℕ) → IsThere k r → RegionFits w r
  region_fits r there =
      let first = first_state features.Extended c rules r there in
      let held : holder k first.0 ≡ r = tree.held r first.0 (subst (λ zs. Contains zs first.0) (sym first.1.1)
      (Rattle.chart_machine_laws.proofs.LyingIn.head_in first.0 first.1.0)) in
      let is : IsState k first.0 =
      ⊎_elim (λ lt. lt) (λ past. let none : r ≡ 0 = sym held ∙ no_holder_past k first.0 past in absurd (omega (none, there.0, arith)))
      (within_or_past first.0 (length k.states)) in
      subst (RegionFits w) held (state_fits first.0 is).region

  pub origin : (t : ℕ) → IsThere core t → Origin w t
  origin t there =
      let first = first_state features.Core (expanded c) core_rules t there in
      let held : holder core first.0 ≡ t = core_tree.held t first.0 (subst (λ zs. Contains zs first.0) (sym first.1.1)
      (Rattle.chart_machine_laws.proofs.LyingIn.head_in first.0 first.1.0)) in
      let is : first.0 < length core.states =
      ⊎_elim (λ lt. lt) (λ past. let none : t ≡ 0 = sym held ∙ no_holder_past core first.0 past in absurd (omega (none, there.0, arith)))
      (within_or_past first.0 (length core.states)) in
      subst (Origin w) held ((facts c rules).core_states first.0 (omega arith) (omega (is, core_size c rules, arith))).origin

  pub core_sort : (n : ℕ) → IsState core n → CoreSort w n
  core_sort n is = ((facts c rules).core_states n (omega arith) (omega (is, core_size c rules, arith))).sort

  -- ---- numbers without a state or a region

  main_past : (s : ℕ) → length k.states ≤ s → i.main_of s ≡ length core.states + s
  main_past s past = ap (λ z. z.main) (image_past c rules s past)

  no_flags_past : (s : ℕ) → length k.states ≤ s → (x : ℕ) → ¬ IsFlag (i.flags_of s) x
  no_flags_past s past x is = none (subst (λ z. IsFlag z x) (ap (λ z. z.flags) (image_past c rules s past)) is)
    where
      none : IsFlag Rattle.abort_expansion_laws.proofs.Walked.no_flags x → ⊥
      none (inl e) = absurd cc
      none (inr (inl e)) = absurd cc
      none (inr (inr e)) = absurd cc

  data Sort (r : ℕ) : Type 0 where
    of_chart : r ≡ 0 → Sort r
    of_region : IsThere k r → Sort r
    of_none : (j : ℕ) → r ≡ suc j → length k.regions ≤ j → Sort r

  sort_of : (r : ℕ) → Sort r
  sort_of zero = of_chart refl
  sort_of (suc j) =
      ⊎_elim (λ lt. of_region (omega arith, omega (lt, arith))) (λ le. of_none j refl le) (within_or_past j (length k.regions))

  thread_past : (j : ℕ) → length k.regions ≤ j → i.thread_of (suc j) ≡ suc (length core.regions) + j
  thread_past j le = ap (λ zs. thread_by w zs (suc j)) (no_states_past k j le)

  -- ---- regions and their threads

  one_region : (r q : ℕ) → IsThere k r → IsThere k q → i.thread_of r ≡ i.thread_of q → r ≡ q
  one_region r q there and e =
      let a = region_fits r there in
      let b = region_fits q and in
      let same : Some a.back.0 ≡ Some b.back.0 = sym a.back.1 ∙ (ap (λ t. w.m (state_in core t 0)) e ∙ b.back.1) in
      sym a.back.2 ∙ (ap (holder k) (same_Some a.back.0 b.back.0 same) ∙ b.back.2)

  region_once : (r q : ℕ) → i.thread_of r ≡ i.thread_of q → r ≡ q
  region_once r q e = by_sorts (sort_of r) (sort_of q)
    where
      in_core : (r : ℕ) → IsThere k r → IsThere core (i.thread_of r)
      in_core r there = (region_fits r there).image.there

      by_sorts : Sort r → Sort q → r ≡ q
      by_sorts (of_chart a) (of_chart b) = a ∙ sym b
      by_sorts (of_chart a) (of_region b) =
          let there = in_core q b in let zero_is : i.thread_of r ≡ 0 = ap i.thread_of a in absurd (omega (there.0, e, zero_is, arith))
      by_sorts (of_chart a) (of_none j b le) =
          let zero_is : i.thread_of r ≡ 0 = ap i.thread_of a in
          let far : i.thread_of q ≡ suc (length core.regions) + j = ap i.thread_of b ∙ thread_past j le in absurd (omega (far, e, zero_is, arith))
      by_sorts (of_region a) (of_chart b) =
          let there = in_core r a in let zero_is : i.thread_of q ≡ 0 = ap i.thread_of b in absurd (omega (there.0, e, zero_is, arith))
      by_sorts (of_region a) (of_region b) = one_region r q a b e
      by_sorts (of_region a) (of_none j b le) =
          let there = in_core r a in
          let far : i.thread_of q ≡ suc (length core.regions) + j = ap i.thread_of b ∙ thread_past j le in absurd (omega (there.1, far, e, arith))
      by_sorts (of_none j a le) (of_chart b) =
          let zero_is : i.thread_of q ≡ 0 = ap i.thread_of b in
          let far : i.thread_of r ≡ suc (length core.regions) + j = ap i.thread_of a ∙ thread_past j le in absurd (omega (far, e, zero_is, arith))
      by_sorts (of_none j a le) (of_region b) =
          let there = in_core q b in
          let far : i.thread_of r ≡ suc (length core.regions) + j = ap i.thread_of a ∙ thread_past j le in absurd (omega (there.1, far, e, arith))
      by_sorts (of_none j a le) (of_none l b more) =
          let one : i.thread_of r ≡ suc (length core.regions) + j = ap i.thread_of a ∙ thread_past j le in
          let two : i.thread_of q ≡ suc (length core.regions) + l = ap i.thread_of b ∙ thread_past l more in
          omega (one, two, e, a, b, arith)

  there_back : (r : ℕ) → IsThere core (i.thread_of r) → IsThere k r
  there_back r there = by_sort (sort_of r)
    where
      by_sort : Sort r → IsThere k r
      by_sort (of_chart a) = let zero_is : i.thread_of r ≡ 0 = ap i.thread_of a in absurd (omega (there.0, zero_is, arith))
      by_sort (of_region a) = a
      by_sort (of_none j a le) =
          let far : i.thread_of r ≡ suc (length core.regions) + j = ap i.thread_of a ∙ thread_past j le in absurd (omega (there.1, far, arith))

  encloses : (r : ℕ) → around core (i.thread_of r) ≡ map i.main_of (around k r)
  encloses r = by_sort (sort_of r)
    where
      by_sort : Sort r → around core (i.thread_of r) ≡ map i.main_of (around k r)
      by_sort (of_chart a) = subst (λ z. around core (i.thread_of z) ≡ map i.main_of (around k z)) (sym a) refl
      by_sort (of_region a) = (region_fits r a).encloses
      by_sort (of_none j a le) =
          let far : i.thread_of r ≡ suc (length core.regions + j) = ap i.thread_of a ∙ (thread_past j le ∙ omega arith) in
          let none : around core (i.thread_of r) ≡ [] = ap (around core) far ∙ nothing_around core (length core.regions + j) (omega arith) in
          let empty : around k r ≡ [] = ap (around k) a ∙ nothing_around k j le in
          none ∙ ap (map i.main_of) (sym empty)

  -- ---- states and what stands for them

  pub main_there : (s : ℕ) → IsState k s → i.main_of s < length core.states
  main_there s is =
      let fits = state_fits s is in
      ⊎_elim (λ lt. lt)
      (λ past.
      let none : i.thread_of (holder k s) ≡ 0 = sym fits.held ∙ no_holder_past core (i.main_of s) past in
      let there = fits.region.image.there in absurd (omega (there.0, none, arith)))
      (within_or_past (i.main_of s) (length core.states))

  main_once : (s u : ℕ) → i.main_of s ≡ i.main_of u → s ≡ u
  main_once s u e = by_sizes (within_or_past s (length k.states)) (within_or_past u (length k.states))
    where
      by_sizes : (s < length k.states) ⊎ (length k.states ≤ s) → (u < length k.states) ⊎ (length k.states ≤ u) → s ≡ u
      by_sizes (inl a) (inl b) = same_Some s u (sym (state_fits s a).mapped ∙ (ap w.m e ∙ (state_fits u b).mapped))
      by_sizes (inl a) (inr b) = let lt = main_there s a in let far = main_past u b in absurd (omega (lt, far, e, arith))
      by_sizes (inr a) (inl b) = let lt = main_there u b in let far = main_past s a in absurd (omega (lt, far, e, arith))
      by_sizes (inr a) (inr b) = let one = main_past s a in let two = main_past u b in omega (one, two, e, arith)

  held : (s : ℕ) → holder core (i.main_of s) ≡ i.thread_of (holder k s)
  held s =
      ⊎_elim (λ lt. (state_fits s lt).held)
      (λ past.
      let main : i.main_of s ≡ length core.states + s = main_past s past in
      ap (holder core) main ∙ (no_holder_past core (length core.states + s) (omega arith) ∙ ap i.thread_of (sym (no_holder_past k s past))))
      (within_or_past s (length k.states))

  -- a superstate around a region is a state
  pub super_there : (r s : ℕ) → Contains (around k r) s → IsState k s
  super_there r s h = go (around k r) r refl h
    where
      go : (zs : List ℕ) (r : ℕ) → around k r ≡ zs → Contains zs s → IsState k s
      go [] r e h = absurd (none_in s h)
      go (z ∷ zs) r e h =
          ⊎_elim
          (λ same. subst (IsState k) same
          (⊎_elim (λ lt. lt) (λ past. absurd (none_in r (subst (λ ys. Contains ys r) (no_regions_past k z past) (tree.innermost r z zs e))))
          (within_or_past z (length k.states))))
          (λ tail. go zs (holder k z) (sym (tree.nested.upward r z zs e)) tail) (head_or_tail z s zs h)

  -- and has regions
  pub super_around : (r s : ℕ) → Contains (around k r) s → IsSuper k s
  super_around r s h = go (around k r) r refl h
    where
      go : (zs : List ℕ) (r : ℕ) → around k r ≡ zs → Contains zs s → IsSuper k s
      go [] r e h = absurd (none_in s h)
      go (z ∷ zs) r e h =
          ⊎_elim
          (λ same. subst (IsSuper k) same (λ none. none_in r (subst (λ ys. Contains ys r) none (tree.innermost r z zs e))))
          (λ tail. go zs (holder k z) (sym (tree.nested.upward r z zs e)) tail) (head_or_tail z s zs h)

  -- nothing lies in what stands for no state
  not_around_past : (s : ℕ) → length k.states ≤ s → (t : ℕ) → ¬ Contains (around core t) (i.main_of s)
  not_around_past s past t h = by_origin (origin t (Rattle.chart_machine_laws.proofs.ChartTables.around_there core t (i.main_of s) h))
    where
      not_main : (r : ℕ) → Contains (map i.main_of (around k r)) (i.main_of s) → ⊥
      not_main r inner =
          let u = contains_map i.main_of (around k r) (i.main_of s) inner in
          let same : u.0 ≡ s = main_once u.0 s u.2 in
          let lt : u.0 < length k.states = super_there r u.0 u.1 in omega (lt, same, past, arith)

      by_origin : Origin w t → ⊥
      by_origin (thread r there is) = not_main r (subst (λ zs. Contains zs (i.main_of s)) (ap (around core) is ∙ encloses r) h)
      by_origin (watcher o here has is) =
          let around_it : around core t ≡ i.main_of o ∷ around core (i.thread_of (holder k o)) = ap (around core) is ∙ (state_fits o here).watches
          (has_regions o here has) in
          ⊎_elim
          (λ same. let one : o ≡ s = main_once o s same in omega (here, one, past, arith))
          (λ tail. not_main (holder k o) (subst (λ zs. Contains zs (i.main_of s)) (encloses (holder k o)) tail))
          (head_or_tail (i.main_of o) (i.main_of s) (around core (i.thread_of (holder k o))) (subst (λ zs. Contains zs (i.main_of s)) around_it h))
        where
          has_regions : (o : ℕ) → IsState k o → has_aborts (own k o) ≡ true → IsSuper k o
          has_regions o here has none = let wrong : true ≡ false = sym has ∙ ((state_fits o here).flagless none).1 in absurd cc

  pub super_of : (o : ℕ) → IsState k o → has_aborts (own k o) ≡ true → IsSuper k o
  super_of o here has none = let wrong : true ≡ false = sym has ∙ ((state_fits o here).flagless none).1 in absurd cc

  -- ---- flags

  -- which one of the superstate's it is
  pub flag_from : (s x : ℕ) → IsFlag (i.flags_of s) x → FlagsFit w s
  flag_from s x is =
      ⊎_elim
      (λ lt. (state_fits s lt).flags
      (λ none. not_one (subst (λ z. IsFlag z x) ((state_fits s lt).flagless none).0 is)))
      (λ past. absurd (no_flags_past s past x is)) (within_or_past s (length k.states))
    where
      not_one : IsFlag Rattle.abort_expansion_laws.proofs.Walked.no_flags x → ⊥
      not_one (inl e) = absurd cc
      not_one (inr (inl e)) = absurd cc
      not_one (inr (inr e)) = absurd cc

  pub flag_low : (s x : ℕ) → IsFlag (i.flags_of s) x → length k.variables ≤ x
  flag_low s x is = let fits = flag_from s x is in from fits (subst (λ z. IsFlag z x) fits.are is)
    where
      from : (fits : FlagsFit w s) → IsFlag (flags_of (weak_around (flags_around k core i (holder k s))) (own k s) fits.first) x → length k.variables ≤ x
      from fits (inl e) = let here = given_is (has_strong (own k s)) fits.first x e in let low = fits.low in omega (here, low, arith)
      from fits (inr (inl e)) =
          let here = given_is (has_weak (own k s)) (fits.first + one (has_strong (own k s))) x e in let low = fits.low in omega (here, low, arith)
      from fits (inr (inr e)) =
          let here = given_is (counts (weak_around (flags_around k core i (holder k s))) (own k s))
          (fits.first + one (has_strong (own k s)) + one (has_weak (own k s))) x e in
          let low = fits.low in omega (here, low, arith)

  -- who has a flag is a superstate
  pub flagged_super : (s x : ℕ) → IsFlag (i.flags_of s) x → IsSuper k s
  flagged_super s x is none = of_size (within_or_past s (length k.states))
    where
      not_one : IsFlag Rattle.abort_expansion_laws.proofs.Walked.no_flags x → ⊥
      not_one (inl e) = absurd cc
      not_one (inr (inl e)) = absurd cc
      not_one (inr (inr e)) = absurd cc

      of_size : (s < length k.states) ⊎ (length k.states ≤ s) → ⊥
      of_size (inl here) = not_one (subst (λ z. IsFlag z x) ((state_fits s here).flagless none).0 is)
      of_size (inr past) = no_flags_past s past x is

  strong_there : (s n : ℕ) (t : Transition) → IsState k s → slice_get (strong_aborts (own k s)) n ≡ Some t → (x : ℕ) × ((i.flags_of s).strong ≡ Some x)
  strong_there s n t here e =
      let some : has_strong (own k s) ≡ true = any_first (λ t. is_strong t.kind) (own k s) n t e in
      let has : has_aborts (own k s) ≡ true = rw (some) refl in
      let fits = (state_fits s here).flags (super_of s here has) in
      (fits.first, ap (λ z. z.strong) fits.are ∙ given_some (has_strong (own k s)) fits.first some)

  weak_there : (s n : ℕ) (t : Transition) → IsState k s → slice_get (weak_aborts (own k s)) n ≡ Some t → (x : ℕ) × ((i.flags_of s).weak ≡ Some x)
  weak_there s n t here e =
      let some : has_weak (own k s) ≡ true = any_first (λ t. is_weak t.kind) (own k s) n t e in
      let has : has_aborts (own k s) ≡ true = either (has_strong (own k s)) some in
      let fits = (state_fits s here).flags (super_of s here has) in
      (fits.first + one (has_strong (own k s)), ap (λ z. z.weak) fits.are ∙ given_some (has_weak (own k s)) (fits.first + one (has_strong (own k s))) some)
    where
      either : (b : Bool) → has_weak (own k s) ≡ true → (b || has_weak (own k s)) ≡ true
      either true e = refl
      either false e = e

  -- what has no flags stands for itself
  abbrev NotOne : ℕ → Type 0
  NotOne s = (i.watcher_of s ≡ holder core (i.main_of s)) × ((t : ℕ) → ¬ Contains (around core t) (i.main_of s))

  watcher_around : (x : ℕ) →
      (around core (i.watcher_of (w.of_flag x)) ≡ i.main_of (w.of_flag x) ∷ around core (holder core (i.main_of (w.of_flag x))))
      ⊎ ((i.watcher_of (w.of_flag x) ≡ holder core (i.main_of (w.of_flag x))) × ((t : ℕ) → ¬ Contains (around core t) (i.main_of (w.of_flag x))))
  watcher_around x = ⊎_elim (λ is. inl (owned is.0 is.1)) (λ is. inr (subst NotOne (sym is) none)) (owner_else c rules x)
    where
      owned : length c.variables ≤ x → x < length c.variables + Rattle.abort_expansion.specs.Pieces.variables_in (weak_around [])
          (map Rattle.abort_expansion.specs.Expansion.piece_of_region c.regions) →
          around core (i.watcher_of (w.of_flag x)) ≡ i.main_of (w.of_flag x) ∷ around core (holder core (i.main_of (w.of_flag x)))
      owned low high =
          let o : OwnerFits w x = (facts c rules).owners x low high in
          let fits = state_fits (w.of_flag x) o.here in
          fits.watches o.super ∙ ap (λ t. i.main_of (w.of_flag x) ∷ around core t) (sym fits.held)

      none : NotOne (length k.states)
      none = (
        ap (λ z. z.watcher) (image_past c rules (length k.states) (omega arith)) ∙
            sym (ap (holder core) (main_past (length k.states) (omega arith)) ∙
            no_holder_past core (length core.states + length k.states) (omega arith)),
        not_around_past (length k.states) (omega arith),
      )

  watcher_image : (s : ℕ) → IsState k s → has_aborts (own k s) ≡ true → WatcherImage k core i s
  watcher_image s here has =
      let fits = (state_fits s here).watcher (super_of s here has) has in
      record {
        there = fits.there;
        encloses = (state_fits s here).watches (super_of s here has);
        no_thread = λ r e.
            let back : IsThere k r = there_back r (subst (IsThere core) (sym e) fits.there) in
            let mine = region_fits r back in
            let none : w.m (state_in core (i.watcher_of s) 0) ≡ None = ap w.m (ap (λ zs. unwrap_or (slice_get zs 0) 0) fits.states) ∙ fits.unmapped in
            let wrong : Some mine.back.0 ≡ None = sym mine.back.1 ∙ (ap (λ t. w.m (state_in core t 0)) e ∙ none) in absurd cc;
        row = fits.row;
        ended = ap (λ zs. unwrap_or (slice_get zs 1) 0) fits.states;
        watched = fits.watched;
      }

  pub is_state_super : (s : ℕ) → IsSuper k s → IsState k s
  is_state_super = super_is_state (table c)

  pub rows_of_chart : CoreRows k core i
  rows_of_chart =
      record {
        added = (expansion c).variables;
        variables = refl;
        strong_there = strong_there;
        weak_there = weak_there;
        strong_added = λ s x e. flag_low s x (inl e);
        weak_added = λ s x e. flag_low s x (inr (inl e));
        counter_added = λ s x e. flag_low s x (inr (inr e));
        root = refl;
        region_once = region_once;
        there_back = there_back;
        main_once = main_once;
        encloses = encloses;
        held = held;
        of_flag = w.of_flag;
        watcher_around = watcher_around;
        region = λ r there. (region_fits r there).image;
        simple = λ s simple. (state_fits s simple.there).simple simple;
        final = λ s ends.
            ⊎_elim (λ lt. (state_fits s lt).final ends)
            (λ past. let wrong : true ≡ false = sym ends ∙ no_entered_past k s past in absurd cc) (within_or_past s (length k.states));
        staying = λ s here super stay. (state_fits s here).staying super stay;
        split = λ s here super apart. (state_fits s here).split super apart;
        watcher = watcher_image;
        each = λ t there. by_origin t (origin t there);
      }
    where
      by_origin : (t : ℕ) → Origin w t →
          ((r : ℕ) × IsThere k r × (t ≡ i.thread_of r)) ⊎ ((s : ℕ) × IsState k s × (has_aborts (own k s) ≡ true) × (t ≡ i.watcher_of s))
      by_origin t (thread r there is) = inl (r, there, is)
      by_origin t (watcher s here has is) = inr (s, here, has, is)

  -- flags have the owners of the walk
  pub owner_is : (x : ℕ) → rows_of_chart.of_flag x ≡ w.of_flag x
  unfolding rows_of_chart
  owner_is x = refl

  -- and the variables that are added are those of the expansion
  pub added_is : rows_of_chart.added ≡ (expansion c).variables
  unfolding rows_of_chart
  added_is = refl
