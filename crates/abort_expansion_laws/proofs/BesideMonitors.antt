-- Whoever is enabled below the holder of a guarded superstate lies in that, beside its monitor: the thread of a region, or another monitor. A check of
-- its strong flag there is below the nodes that raise it.
use Rattle.std.proofs.Common.{◌≡◌, ◌≢◌, ℕ, zero, suc, ◌<◌, ◌⊎◌, inl, inr, true, Some, List, [], ◌∷◌, ◌++◌, map}
use Rattle.std.proofs.Common.{Contains, refl, sym, ap, subst, ◌∙◌, arith}
use Rattle.std.proofs.lemmas.Option.{same_Some}
use Rattle.sc_values.specs.Access.{Reads, Inits, init_read}
use Rattle.sc_graph.specs.declared.tables.Tables.{Tables}
use Rattle.sc_graph.specs.declared.control.Control.{Control}
use Rattle.sc_graph.specs.declared.place.Place.TheVariants as place
use Rattle.sc_graph.specs.Program.{Program, parent_of, owner_of}
use Rattle.sc_graph.specs.Threads.{Descends, Below}
use Rattle.sc_graph.specs.Accesses.{accesses}
use Rattle.sc_graph.specs.Tables.{priority}
use Rattle.sc_graph.specs.Valid.{IsFormed, IsValid}
use Rattle.tick_laws.proofs.Formed.{root_alone, valid_formed}
use Rattle.tick_laws.proofs.Lists.{contains_head}
use Rattle.core_charts.specs.declared.region.Transition.{Transition}
use Rattle.core_charts.specs.Aborts.{has_aborts}
use Rattle.chart_machine.specs.declared.standing.Standing.{Standing}
use Rattle.chart_machine.specs.declared.standing.Standing.TheVariants as at
use Rattle.chart_machine.specs.declared.standing.Configuration.{Configuration}
use Rattle.chart_machine.specs.declared.table.Table.{Table}
use Rattle.chart_machine.specs.Turns.{standing_of, ForkedApart}
use Rattle.chart_machine.specs.Steps.{access_of_trigger}
use Rattle.abort_expansion.specs.Transitions.{is_raised}
use Rattle.chart_lowering_laws.specs.Stands.{Lowered}
use Rattle.chart_machine_laws.proofs.LyingIn.{IsNested, around, holder, head_in, tail_in, swapped}
use Rattle.chart_machine_laws.specs.Tree.{IsThere}
use Rattle.abort_expansion_laws.specs.CoreRows.{own, IsState, Images, CoreRows, WatcherImage}
use Rattle.abort_expansion_laws.specs.Related.{Stands, outside}
use Rattle.abort_expansion_laws.specs.Related.{ended, left}
use Rattle.abort_expansion_laws.specs.Related.{trying, acting, entering, guarding, staying, within}
use Rattle.abort_expansion_laws.specs.Related.{behind, Watches, guards as watch_guards, waits, looks_strong, looks}
use Rattle.abort_expansion_laws.specs.Related.{elsewhere}
use Rattle.abort_expansion_laws.specs.Related.{IsInside, guarded, open_inside, Related}
use Rattle.abort_expansion_laws.proofs.FlagAccess.{raised_access}
use Rattle.abort_expansion_laws.proofs.MonitorsApart.{monitor_apart, monitors_apart}
use Rattle.abort_expansion_laws.proofs.StageReached.{holds_other}
use Rattle.abort_expansion_laws.proofs.StrongNotTaken.{inside_guarding}
use Rattle.abort_expansion_laws.proofs.OneMonitor.{one_monitor}
use Rattle.abort_expansion_laws.proofs.NumberedRegions.{is_region}
use Rattle.abort_expansion_laws.proofs.ThreadsAround.{thread_within}

-- ---- where threads are, regions are

module _ (k core : Table) (i : Images) (c : Configuration) where
  pub region_present : (r : ℕ) (x y : Standing) → Stands k core i c r x y → y ≢ at.Outside → x ≢ at.Outside
  region_present r _ _ outside present e = present refl
  region_present r _ _ (ended inner) present e = absurd cc
  region_present r _ _ (left s ss round over_it) present e = absurd cc
  region_present r _ _ (trying s tests simple held) present e = absurd cc
  region_present r _ _ (acting s u p g effects lt) present e = absurd cc
  region_present r _ _ (entering s fork t tests super held leads) present e = absurd cc
  region_present r _ _ (guarding s join t tests has_some held leads) present e = absurd cc
  region_present r _ _ (staying s tests super held stay) present e = absurd cc
  region_present r _ _ (within s join tests super held stay open_still leads) present e = absurd cc
  region_present r _ _ (behind s tests super held over_it) present e = absurd cc

  -- a monitor is there where its superstate is guarded, or open
  pub monitor_present : (o : ℕ) (x y : Standing) → Watches k core i o x y → y ≢ at.Outside → IsInside k core i o x
  monitor_present o _ _ (watch_guards some among) present = guarded (map (λ (z : ℕ × Transition). z.1) some)
  monitor_present o _ _ (looks_strong yet seen parted some among) present = guarded (map (λ (z : ℕ × Transition). z.1) some)
  monitor_present o _ _ (waits some ends among all) present = open_inside (map (λ (z : ℕ × Transition). z.1) some ++ ends)
  monitor_present o _ _ (looks yet seen parted first some ends among all) present = open_inside (map (λ (z : ℕ × Transition). z.1) (first ∷ some) ++ ends)
  monitor_present o x _ (elsewhere _ a b) present = absurd (present refl)

module _ (k core : Table) (i : Images) (rows : CoreRows k core i) (tree : IsNested k) (core_tree : IsNested core)
    (super_there : (r s : ℕ) → Contains (around k r) s → IsState k s) (holds_there : (s : ℕ) → IsState k s → IsThere k (holder k s))
    (p : Program) (q : Tables) (valid : IsValid p q) (Alike : Configuration → Control → Type 0) (lowered : Lowered core p Alike)
    (top_parent : (t : ℕ) → IsThere core t → around core t ≡ [] → parent_of p t ≡ Some 0)
    (c d : Configuration) (related : Related k core i c d) where
  formed : IsFormed p
  formed = valid_formed p q valid

  -- ---- the tree of threads

  pub none_at_root : (gens h u : ℕ) → parent_of p u ≡ Some h → Descends p gens 0 u → ⊥
  none_at_root zero h u up same = root_alone p formed h (ap (parent_of p) same ∙ up)
  none_at_root (suc gens) h u up below = root_alone p formed below.0 below.1

  -- whose thread lies below one that the thread of r forks lies in a superstate of r
  module _ (r u : ℕ) (r_there : IsThere k r) (up : parent_of p u ≡ Some (i.thread_of r)) where
    abbrev InRegion : ℕ → Type 0
    InRegion v = (s : ℕ) × Contains (around k v) s × (holder k s ≡ r)

    not_root : i.thread_of r ≡ 0 → ⊥
    not_root same =
        let root : r ≡ 0 = rows.region_once r 0 (same ∙ sym rows.root) in
        let lt = r_there.0 in absurd (omega (root, lt, arith))

    parent_in : (v s : ℕ) (ss : List ℕ) → around k v ≡ s ∷ ss → parent_of p (i.thread_of v) ≡ Some (i.thread_of (holder k s))
    parent_in v s ss round =
        lowered.parent (i.thread_of v) (i.main_of s) (map i.main_of ss) (rows.encloses v ∙ ap (map i.main_of) round) ∙ ap Some (rows.held s)

    parent_top : (v : ℕ) → IsThere k v → around k v ≡ [] → parent_of p (i.thread_of v) ≡ Some 0
    parent_top v there round = top_parent (i.thread_of v) (rows.region v there).there (rows.encloses v ∙ ap (map i.main_of) round)

    itself_in : (v : ℕ) → IsThere k v → i.thread_of v ≡ u → (zs : List ℕ) → around k v ≡ zs → InRegion v
    itself_in v there same [] round =
        absurd (not_root (same_Some (i.thread_of r) 0 (sym up ∙ (ap (parent_of p) (sym same) ∙ parent_top v there round))))
    itself_in v there same (s ∷ ss) round =
        let held : holder k s ≡ r = rows.region_once (holder k s) r
        (same_Some (i.thread_of (holder k s)) (i.thread_of r) (sym (parent_in v s ss round) ∙ (ap (parent_of p) same ∙ up))) in
        (s, subst (λ zs. Contains zs s) (sym round) (head_in s ss), held)

    further_in : (gens v : ℕ) → IsThere k v → Descends p (suc gens) (i.thread_of v) u →
        ((w : ℕ) → IsThere k w → Descends p gens (i.thread_of w) u → InRegion w) → (zs : List ℕ) → around k v ≡ zs → InRegion v
    further_in gens v there below further [] round =
        absurd (none_at_root gens (i.thread_of r) u up
        (subst (λ w. Descends p gens w u) (same_Some below.0 0 (sym below.1 ∙ parent_top v there round)) below.2))
    further_in gens v there below further (s ∷ ss) round =
        let is_parent : below.0 ≡ i.thread_of (holder k s) = same_Some below.0 (i.thread_of (holder k s)) (sym below.1 ∙ parent_in v s ss round) in
        let s_there : IsState k s = super_there v s (subst (λ zs. Contains zs s) (sym round) (head_in s ss)) in
        let outer : InRegion (holder k s) = further (holder k s) (holds_there s s_there) (subst (λ w. Descends p gens w u) is_parent below.2) in (
          outer.0,
          subst (λ zs. Contains zs outer.0) (sym round)
              (tail_in s outer.0 ss (subst (λ zs. Contains zs outer.0) (sym (tree.upward v s ss round)) outer.1)),
          outer.2,
        )

    lies_in : (gens v : ℕ) → IsThere k v → Descends p gens (i.thread_of v) u → InRegion v
    lies_in zero v there same = itself_in v there same (around k v) refl
    lies_in (suc gens) v there below = further_in gens v there below (λ w w_there h. lies_in gens w w_there h) (around k v) refl

  pub core_present : (t : ℕ) → standing_of d t ≢ at.Outside → IsThere core t
  core_present = is_region core d related.no_core related.core_regions

  -- ---- a guarded superstate

  module _ (o : ℕ) (o_there : IsState k o) (has : has_aborts (own k o) ≡ true) (others : List Transition)
      (guarding_now : standing_of c (holder k o) ≡ at.Guarding o others) where
    h_there : IsThere k (holder k o)
    h_there = holds_there o o_there

    image : WatcherImage k core i o
    image = rows.watcher o o_there has

    -- of the superstates of that region it is the one in which somebody is
    is_o : (s : ℕ) → holder k s ≡ holder k o → IsInside k core i s (standing_of c (holder k s)) → s ≡ o
    is_o s held inner = inside_guarding k core i o s (standing_of c (holder k s)) inner others (ap (standing_of c) held ∙ guarding_now)

    -- whoever is there, and lies below another child, lies in the superstate
    by_region : (v u : ℕ) → IsThere k v → standing_of c v ≢ at.Outside → (gens : ℕ) → parent_of p u ≡ Some (i.thread_of (holder k o)) →
        Descends p gens (i.thread_of v) u → Contains (around k v) o
    by_region v u there present gens up below =
        let s = lies_in (holder k o) u h_there up gens v there below in
        subst (Contains (around k v)) (is_o s.0 s.2 (related.enclosed v s.0 there present s.1)) s.1

    -- so does another monitor
    by_monitor : (w u : ℕ) → IsState k w → has_aborts (own k w) ≡ true → standing_of d (i.watcher_of w) ≢ at.Outside → (gens : ℕ) →
        parent_of p u ≡ Some (i.thread_of (holder k o)) → u ≢ i.watcher_of o → Descends p gens (i.watcher_of w) u → Contains (around k (holder k w)) o
    by_monitor w u there has_too present gens up differs below = by gens below
      where
        inside_w : IsInside k core i w (standing_of c (holder k w))
        inside_w = monitor_present k core i c w (standing_of c (holder k w)) (standing_of d (i.watcher_of w)) (related.watchers w there has_too) present

        holder_present : standing_of c (holder k w) ≢ at.Outside
        holder_present e = none (standing_of c (holder k w)) inside_w e
          where
            none : (z : Standing) → IsInside k core i w z → z ≢ at.Outside
            none _ (guarded others) e = absurd cc
            none _ (open_inside others) e = absurd cc

        parent : parent_of p (i.watcher_of w) ≡ Some (i.thread_of (holder k w))
        parent =
            lowered.parent (i.watcher_of w) (i.main_of w) (around core (i.thread_of (holder k w))) (rows.watcher w there has_too).encloses
            ∙ ap Some (rows.held w)

        by : (gens : ℕ) → Descends p gens (i.watcher_of w) u → Contains (around k (holder k w)) o
        by zero same =
            let held : holder k w ≡ holder k o = rows.region_once (holder k w) (holder k o)
            (same_Some (i.thread_of (holder k w)) (i.thread_of (holder k o)) (sym parent ∙ (ap (parent_of p) same ∙ up))) in
            absurd (differs (sym same ∙ ap i.watcher_of (is_o w held inside_w)))
        by (suc gens) below =
            by_region (holder k w) u (holds_there w there) holder_present gens up
            (subst (λ z. Descends p gens z u) (same_Some below.0 (i.thread_of (holder k w)) (sym below.1 ∙ parent)) below.2)

    region_apart : (v : ℕ) → Contains (around k v) o → ForkedApart core (i.thread_of v) (i.watcher_of o) (i.thread_of (holder k o))
    region_apart v in_o =
        monitor_apart k core i rows core_tree o (i.watcher_of o) image.encloses image.no_thread v
        (thread_within k core i rows v o in_o)

    other_monitor : (w : ℕ) → IsState k w → has_aborts (own k w) ≡ true → Contains (around k (holder k w)) o → i.watcher_of w ≢ i.watcher_of o
    other_monitor w there has_too in_o e =
        let is : w ≡ o = one_monitor k core i rows w o there has_too o_there has e in
        holds_other k tree (holder k o) o (subst (λ v. Contains (around k (holder k v)) o) is in_o) refl

    monitor_beside : (w : ℕ) → IsState k w → has_aborts (own k w) ≡ true → Contains (around k (holder k w)) o →
        ForkedApart core (i.watcher_of w) (i.watcher_of o) (i.thread_of (holder k o))
    monitor_beside w there has_too in_o =
        monitors_apart k core i rows core_tree o (i.watcher_of o) image.encloses image.no_thread w there has_too (other_monitor w there has_too in_o)
        (subst (λ zs. Contains zs (i.main_of o)) (sym (rows.watcher w there has_too).encloses)
        (tail_in (i.main_of w) (i.main_of o) (around core (i.thread_of (holder k w)))
        (thread_within k core i rows (holder k w) o in_o)))

    -- thread t is that of a region inside, or of another monitor there
    pub data LiesBeside (t : ℕ) : Type 0 where
      a_region : (v : ℕ) → IsThere k v → t ≡ i.thread_of v → Contains (around k v) o → LiesBeside t
      a_monitor : (w : ℕ) → IsState k w → has_aborts (own k w) ≡ true → t ≡ i.watcher_of w → Contains (around k (holder k w)) o → LiesBeside t

    pub beside_apart : (t : ℕ) → LiesBeside t → ForkedApart core t (i.watcher_of o) (i.thread_of (holder k o))
    beside_apart t (a_region v there is in_o) =
        subst (λ z. ForkedApart core z (i.watcher_of o) (i.thread_of (holder k o))) (sym is) (region_apart v in_o)
    beside_apart t (a_monitor w there has_too is in_o) =
        subst (λ z. ForkedApart core z (i.watcher_of o) (i.thread_of (holder k o))) (sym is) (monitor_beside w there has_too in_o)

    -- so is whoever is there, and lies below another child than its monitor
    pub lies_beside : (t child : ℕ) → parent_of p child ≡ Some (i.thread_of (holder k o)) → child ≢ i.watcher_of o → Below p t child →
        standing_of d t ≢ at.Outside → LiesBeside t
    lies_beside t child up differs below present = by_sort (rows.each t (core_present t present))
      where
        by_sort : ((r : ℕ) × IsThere k r × (t ≡ i.thread_of r)) ⊎ ((s : ℕ) × IsState k s × (has_aborts (own k s) ≡ true) × (t ≡ i.watcher_of s)) →
            LiesBeside t
        by_sort (inl r) =
            let there_now : standing_of c r.0 ≢ at.Outside =
            region_present k core i c r.0 (standing_of c r.0) (standing_of d (i.thread_of r.0)) (related.regions r.0 r.1)
            (subst (λ z. standing_of d z ≢ at.Outside) r.2 present) in
            a_region r.0 r.1 r.2
            (by_region r.0 child r.1 there_now below.generations up (subst (λ z. Descends p below.generations z child) r.2 below.descends))
        by_sort (inr s) =
            a_monitor s.0 s.1 s.2 s.3
            (by_monitor s.0 child s.1 s.2 (subst (λ z. standing_of d z ≢ at.Outside) s.3 present) below.generations up differs
            (subst (λ z. Descends p below.generations z child) s.3 below.descends))

    -- the check of a flag is to come behind what raises it, whichever thread makes it
    module _ (n x : ℕ) (raising : owner_of p n ≡ Some (i.watcher_of o)) (inits : Inits (accesses p n) x) (t : ℕ)
        (apart : ForkedApart core t (i.watcher_of o) (i.thread_of (holder k o))) (node : ℕ) (owned : owner_of p node ≡ Some t)
        (does : accesses p node ≡ access_of_trigger (Some (is_raised x))) where
      reads : Reads (accesses p node) x
      reads = subst (λ a. Reads a x) (sym (does ∙ raised_access x)) (contains_head x [])

      pub check_below : priority q node < priority q n
      check_below =
          valid.protocol (place.Pair n node)
          (record {
            concurrent =
                record {
                  first = i.watcher_of o;
                  second = t;
                  first_owner = raising;
                  second_owner = owned;
                  concurrent =
                      record {
                        forking = i.thread_of (holder k o);
                        apart = lowered.apart (i.watcher_of o) t (i.thread_of (holder k o))
                            (swapped core core_tree t (i.watcher_of o) (i.thread_of (holder k o)) apart);
                      };
                };
            precedes = init_read x inits reads;
          })
