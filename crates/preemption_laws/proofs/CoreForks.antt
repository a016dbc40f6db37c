-- The superstates of a core chart: each is the fork of a superstate of the chart, with the threads of its regions and a monitor if it has aborts; and in
-- which states these begin.
use Rattle.std.proofs.Common.{◌≡◌, ℕ, ◌⊎◌, inl, inr, ⊎_elim, Bool, true, false, List, [], ◌∷◌, ◌++◌, map, length}
use Rattle.std.proofs.Common.{if◌then◌else◌, Contains, refl, sym, ap, ap₂, subst, subst₂, ◌∙◌}
use Rattle.std.proofs.lemmas.List.{append-nil, map-append}
use Rattle.std.proofs.lemmas.Bool.{or_parts, not-true}
use Rattle.core_charts.specs.declared.features.Features.TheVariants as features
use Rattle.core_charts.specs.Aborts.{has_aborts}
use Rattle.core_charts.specs.Chart.{Chart}
use Rattle.core_charts.specs.Rules.{IsChart}
use Rattle.chart_machine.specs.declared.table.Table.{Table}
use Rattle.chart_machine.specs.Table.{table, state_at}
use Rattle.chart_machine.proofs.Outside.{within_or_past}
use Rattle.abort_expansion.specs.Expansion.{expanded}
use Rattle.abort_expansion.specs.Superstates.{stays}
use Rattle.chart_machine_laws.specs.Tree.{IsThere, around, holder}
use Rattle.chart_machine_laws.proofs.LyingIn.{none_in, head_in, head_or_tail}
use Rattle.chart_machine_laws.proofs.ChartTables.{around_there, no_regions_past}
use Rattle.tick_laws.proofs.Lists.{contains_map, map_contains}
use Rattle.abort_expansion_laws.specs.CoreRows.{own, IsState, IsSuper, Images, flags_around, watchers}
use Rattle.abort_expansion_laws.proofs.ChartsOpened.{entry_rows}
use Rattle.abort_expansion_laws.proofs.EnteredAlike.{OpensAlike, watcher_enters}
use Rattle.abort_expansion_laws.proofs.FreshInside.{all_entered}
use Rattle.abort_expansion_laws.proofs.InitialPairs.{Initials, initials, held_there, once_mapped, entered_append, once_last}
use Rattle.abort_expansion_laws.proofs.JustEntered.{EntryRows}
use Rattle.abort_expansion_laws.proofs.RowsOfCharts as whole
use Rattle.abort_expansion_laws.proofs.StartingRegions.{Once}
use Rattle.preemption_laws.proofs.EnclosedStill.{Firsts}

module _ (c : Chart) (rules : IsChart features.Extended c) (core_rules : IsChart features.Core (expanded c)) where
  abbrev k : Table
  k = table c

  abbrev core : Table
  core = table (expanded c)

  abbrev i : Images
  i = whole.i c rules core_rules

  abbrev rows : EntryRows k core i
  rows = entry_rows c rules core_rules

  -- ---- a superstate of the core

  child_around : (ss : List ℕ) (q n : ℕ) → around core q ≡ ss → Contains ss n → (r : ℕ) × Contains (state_at core n).regions r
  child_around [] q n e h = absurd (none_in n h)
  child_around (x ∷ ss) q n e h =
      ⊎_elim (λ same. (q, subst (λ z. Contains (state_at core z).regions q) same (rows.core_tree.innermost q x ss e)))
      (λ tail. child_around ss (holder core x) n (sym (rows.core_tree.nested.upward q x ss e)) tail) (head_or_tail x n ss h)

  -- has a region
  pub child_of : (q n : ℕ) → Contains (around core q) n → (r : ℕ) × Contains (state_at core n).regions r
  child_of q n h = child_around (around core q) q n refl h

  pub super_there : (n r : ℕ) → Contains (state_at core n).regions r → IsState core n
  super_there n r h =
      ⊎_elim (λ lt. lt) (λ past. absurd (none_in r (subst (λ zs. Contains zs r) (no_regions_past core n past) h))) (within_or_past n (length core.states))

  inside_of : (n r : ℕ) → Contains (state_at core n).regions r → Contains (around core r) n
  inside_of n r h = subst (λ zs. Contains zs n) (sym (rows.core_tree.children n r h)) (head_in n (around core (holder core n)))

  pub region_there : (n r : ℕ) → Contains (state_at core n).regions r → IsThere core r
  region_there n r h = around_there core r n (inside_of n r h)

  first_of : (n s : ℕ) (ns ss : List ℕ) → n ∷ ns ≡ s ∷ ss → n ≡ s
  first_of n s ns ss e = cc

  -- and is the fork of one of the chart
  pub fork_of : (n r : ℕ) → Contains (state_at core n).regions r → (s : ℕ) × IsState k s × IsSuper k s × (i.main_of s ≡ n)
  fork_of n r h = by (rows.rows.each r (region_there n r h))
    where
      direct : around core r ≡ n ∷ around core (holder core n)
      direct = rows.core_tree.children n r h

      of_thread : (q : ℕ) → r ≡ i.thread_of q → (ss : List ℕ) → around k q ≡ ss → (s : ℕ) × IsState k s × IsSuper k s × (i.main_of s ≡ n)
      of_thread q same [] e =
          absurd
          (let wrong : n ∷ around core (holder core n) ≡ [] =
          sym direct ∙ (ap (around core) same ∙ (rows.rows.encloses q ∙ ap (map i.main_of) e)) in cc)
      of_thread q same (s ∷ ss) e =
          let there = rows.super_around q s (subst (λ zs. Contains zs s) (sym e) (head_in s ss)) in
          let both : i.main_of s ∷ map i.main_of ss ≡ n ∷ around core (holder core n) =
          sym (ap (around core) same ∙ (rows.rows.encloses q ∙ ap (map i.main_of) e)) ∙ direct in
          (s, there.0, there.1, first_of (i.main_of s) n (map i.main_of ss) (around core (holder core n)) both)

      by : ((q : ℕ) × IsThere k q × (r ≡ i.thread_of q)) ⊎ ((s : ℕ) × IsState k s × (has_aborts (own k s) ≡ true) × (r ≡ i.watcher_of s)) →
          (s : ℕ) × IsState k s × IsSuper k s × (i.main_of s ≡ n)
      by (inl one) = of_thread one.0 one.2 (around k one.0) refl
      by (inr one) =
          let encloses = (rows.rows.watcher one.0 one.1 one.2).encloses in
          let both : i.main_of one.0 ∷ around core (i.thread_of (holder k one.0)) ≡ n ∷ around core (holder core n) =
          sym (ap (around core) one.3 ∙ encloses) ∙ direct in (
            one.0,
            one.1,
            whole.super_of c rules core_rules one.0 one.1 one.2,
            first_of (i.main_of one.0) n (around core (i.thread_of (holder k one.0))) (around core (holder core n)) both,
          )

  -- ---- the regions of a fork

  pub regions_are : (s : ℕ) → IsState k s → IsSuper k s → (state_at core (i.main_of s)).regions ≡ map i.thread_of (state_at k s).regions ++ watchers k core i s
  regions_are s here super = by (stays (flags_around k core i (holder k s)) (own k s)) refl
    where
      by : (b : Bool) → stays (flags_around k core i (holder k s)) (own k s) ≡ b →
          (state_at core (i.main_of s)).regions ≡ map i.thread_of (state_at k s).regions ++ watchers k core i s
      by false e = ap (λ z. z.regions) (rows.rows.split s here super e).row
      by true e =
          let none : has_aborts (own k s) ≡ false = (or_parts (has_aborts (own k s)) _ (not-true _ e)).0 in
          ap (λ z. z.regions) (rows.rows.staying s here super e).row
          ∙ (sym (append-nil (map i.thread_of (state_at k s).regions))
          ∙ ap (λ b. map i.thread_of (state_at k s).regions ++ (if b then i.watcher_of s ∷ [] else [])) (sym none))

  -- the state in which the monitor begins, if there is one
  watching : (s : ℕ) (b : Bool) → List ℕ
  watching s true = i.watching_of s ∷ []
  watching s false = []

  abbrev HasMonitor : (s : ℕ) → Bool → Type 0
  HasMonitor s b =
      (watcher_enters k core i s ≡ all_entered core (watching s b)) × (map (holder core) (watching s b) ≡ watchers k core i s)

  has_monitor : (s : ℕ) → IsState k s → (b : Bool) → has_aborts (own k s) ≡ b → HasMonitor s b
  unfolding watching
  has_monitor s here false e = (rw (e) refl, rw (e) refl)
  has_monitor s here true e =
      let row = (rows.rows.watcher s here e).row in
      let entered = ap (λ z. z.entered) row in
      let held : holder core (i.watching_of s) ≡ i.watcher_of s = ap (λ z. z.holder) row in
      (rw (e, entered) refl, rw (e, held) refl)

  pub firsts_of : (s : ℕ) → IsState k s → IsSuper k s → Firsts core (i.main_of s)
  firsts_of s here super =
      record {
        firsts = init.core_firsts ++ watching s (has_aborts (own k s));
        opens =
            alike.fork
            ∙ (ap₂ (λ ms ns. ms ++ ns) init.in_core monitor.0
            ∙ sym (entered_append core init.core_firsts (watching s (has_aborts (own k s)))));
        holders = holders;
        states = states;
      }
    where
      alike : OpensAlike k core i s
      alike = rows.alike s here super

      init : Initials k core i rows.rows rows.tree rows.core_tree (state_at k s).regions (state_at k s).opened alike.inner
      init = initials k core i rows.rows rows.tree rows.core_tree (state_at k s).regions (state_at k s).opened alike.inner alike.regions

      monitor : HasMonitor s (has_aborts (own k s))
      monitor = has_monitor s here (has_aborts (own k s)) refl

      holders : map (holder core) (init.core_firsts ++ watching s (has_aborts (own k s))) ≡ (state_at core (i.main_of s)).regions
      holders =
          map-append (holder core) init.core_firsts (watching s (has_aborts (own k s)))
          ∙ (ap₂ (λ xs ys. xs ++ ys) init.threads monitor.1 ∙ sym (regions_are s here super))

      states : (x : ℕ) → Contains (init.core_firsts ++ watching s (has_aborts (own k s))) x → IsState core x
      states x h =
          let child : Contains (state_at core (i.main_of s)).regions (holder core x) =
          subst (λ zs. Contains zs (holder core x)) holders (map_contains (holder core) (init.core_firsts ++ watching s (has_aborts (own k s))) x h) in
          held_there core x (holder core x) refl (region_there (i.main_of s) (holder core x) child)

  -- each region of it is among them once
  pub once_among : (r s : ℕ) → IsState k s → IsSuper k s → Contains (state_at core (i.main_of s)).regions r →
      Once r (state_at core (i.main_of s)).regions
  once_among r s here super h = by (rows.rows.each r (region_there (i.main_of s) r h))
    where
      direct : around core r ≡ i.main_of s ∷ around core (holder core (i.main_of s))
      direct = rows.core_tree.children (i.main_of s) r h

      no_monitor : (q : ℕ) (b : Bool) → has_aborts (own k s) ≡ b → ¬ Contains (if b then i.watcher_of s ∷ [] else []) (i.thread_of q)
      no_monitor q false e inner = none_in (i.thread_of q) inner
      no_monitor q true e inner =
          ⊎_elim (λ same. (rows.rows.watcher s here e).no_thread q (sym same)) (λ none. none_in (i.thread_of q) none)
          (head_or_tail (i.watcher_of s) (i.thread_of q) [] inner)

      of_thread : (q : ℕ) → IsThere k q → r ≡ i.thread_of q → (ss : List ℕ) → around k q ≡ ss → Once r (state_at core (i.main_of s)).regions
      of_thread q there same [] e =
          absurd
          (let wrong : i.main_of s ∷ around core (holder core (i.main_of s)) ≡ [] =
          sym direct ∙ (ap (around core) same ∙ (rows.rows.encloses q ∙ ap (map i.main_of) e)) in cc)
      of_thread q there same (z ∷ zs) e =
          let both : i.main_of z ∷ map i.main_of zs ≡ i.main_of s ∷ around core (holder core (i.main_of s)) =
          sym (ap (around core) same ∙ (rows.rows.encloses q ∙ ap (map i.main_of) e)) ∙ direct in
          let one : z ≡ s =
          rows.rows.main_once z s (first_of (i.main_of z) (i.main_of s) (map i.main_of zs) (around core (holder core (i.main_of s))) both) in
          let once : Once q (state_at k s).regions = subst (λ v. Once q (state_at k v).regions) one (rows.once q z zs there e) in
          subst₂ Once (sym same) (sym (regions_are s here super))
          (once_mapped i.thread_of (λ a b. rows.rows.region_once a b) q (state_at k s).regions (watchers k core i s) once
          (no_monitor q (has_aborts (own k s)) refl))

      by : ((q : ℕ) × IsThere k q × (r ≡ i.thread_of q)) ⊎ ((o : ℕ) × IsState k o × (has_aborts (own k o) ≡ true) × (r ≡ i.watcher_of o)) →
          Once r (state_at core (i.main_of s)).regions
      by (inl one) = of_thread one.0 one.1 one.2 (around k one.0) refl
      by (inr one) =
          let image = rows.rows.watcher one.0 one.1 one.2 in
          let both : i.main_of one.0 ∷ around core (i.thread_of (holder k one.0)) ≡ i.main_of s ∷ around core (holder core (i.main_of s)) =
          sym (ap (around core) one.3 ∙ image.encloses) ∙ direct in
          let same : one.0 ≡ s =
          rows.rows.main_once one.0 s
          (first_of (i.main_of one.0) (i.main_of s) (around core (i.thread_of (holder k one.0))) (around core (holder core (i.main_of s))) both) in
          let has : has_aborts (own k s) ≡ true = subst (λ v. has_aborts (own k v) ≡ true) same one.2 in
          let at_r : r ≡ i.watcher_of s = one.3 ∙ ap i.watcher_of same in
          let all : (state_at core (i.main_of s)).regions ≡ map i.thread_of (state_at k s).regions ++ i.watcher_of s ∷ [] =
          regions_are s here super ∙ ap (λ b. map i.thread_of (state_at k s).regions ++ (if b then i.watcher_of s ∷ [] else [])) has in
          subst₂ Once (sym at_r) (sym all)
          (once_last (i.watcher_of s) (map i.thread_of (state_at k s).regions)
          (λ inner.
          let one_more = contains_map i.thread_of (state_at k s).regions (i.watcher_of s) inner in
          (rows.rows.watcher s here has).no_thread one_more.0 one_more.2))
