-- A region goes on, and so does the monitor of the superstate in which it stands: what corresponds still does.
use Rattle.std.proofs.Common.{◌≡◌, ◌≢◌, ℕ, ◌<◌, ◌≤◌, ⊎_elim, true, false, List, ◌++◌, length, slice_get, slice_set}
use Rattle.std.proofs.Common.{Contains, sym, ap, subst, ◌∙◌, arith}
use Rattle.std.proofs.lemmas.List.{length-set}
use Rattle.sc_values.specs.declared.value.Value.{Value}
use Rattle.scl_graph_laws.proofs.Searching.{unlike}
use Rattle.core_charts.specs.declared.region.Transition.{Transition}
use Rattle.core_charts.specs.Aborts.{has_aborts}
use Rattle.chart_machine.specs.declared.standing.Standing.{Standing}
use Rattle.chart_machine.specs.declared.standing.Standing.TheVariants as at
use Rattle.chart_machine.specs.declared.standing.Configuration.{Configuration}
use Rattle.chart_machine.specs.declared.table.Table.{Table}
use Rattle.chart_machine.specs.Turns.{standing_of, has_ended, guards, is_guarded}
use Rattle.tick_laws.proofs.Lists.{same_or_not}
use Rattle.chart_machine_laws.proofs.LyingIn.{around, holder}
use Rattle.abort_expansion_laws.proofs.TablesCorrespond.{IsThere}
use Rattle.abort_expansion_laws.specs.CoreRows.{own, IsState, Images, CoreRows, WatcherImage}
use Rattle.abort_expansion_laws.specs.Related.{IsCalm, Closes, Stands, Watches, IsInside, Related}
use Rattle.abort_expansion_laws.proofs.Unchanged.{none_among, stands_same, stands_other, SameShape, stands_kept}
use Rattle.abort_expansion_laws.proofs.LooksFirst.{still_looks}
use Rattle.abort_expansion_laws.proofs.OneMonitor.{one_monitor}
use Rattle.abort_expansion_laws.proofs.RegionMoved.{RegionMoved, ends_alike, back_inside, still_inside, was_present, is_present, down_still}

module _ (k core : Table) (i : Images) (rows : CoreRows k core i) where
  -- region r comes to stand at y, the monitor of superstate o at z; variables may change, but no flags
  pub record MonitorGoesOn (c d : Configuration) (r o : ℕ) (y z : Standing) (c' d' : Configuration) : Type 0 where
    pub there : IsThere k r
    pub chart : c'.regions ≡ slice_set c.regions r y
    pub core_too : d'.regions ≡ slice_set d.regions (i.watcher_of o) z
    pub state_there : IsState k o
    pub has : has_aborts (own k o) ≡ true
    pub held : holder k o ≡ r
    pub ends : has_ended y ≡ has_ended (standing_of c r)
    pub guards_alike : guards y ≡ guards (standing_of c r)
    pub was_there : standing_of c r ≢ at.Outside
    pub is_there : y ≢ at.Outside
    pub stands : Stands k core i c r y (standing_of d (i.thread_of r))
    pub watches : Watches k core i o y z
    pub watches_others : (u : ℕ) → IsState k u → has_aborts (own k u) ≡ true → holder k u ≡ r → u ≢ o → Watches k core i u y (standing_of d (i.watcher_of u))
    pub inside : (s : ℕ) → holder k s ≡ r → IsInside k core i s (standing_of c r) → IsInside k core i s y
    pub inside_back : (s : ℕ) → holder k s ≡ r → IsInside k core i s y → IsInside k core i s (standing_of c r)
    pub closes : (s : ℕ) (tests : List Transition) → holder k s ≡ r → y ≡ at.Within s tests → Closes k core i s tests
    pub free : is_guarded k c (around k r) ≡ false
    pub more : List Value
    pub variables : d'.variables ≡ c'.variables ++ more
    pub flag_count : length d'.variables ≡ length core.variables
    pub values : length c'.variables ≡ length k.variables
    pub flags : (x : ℕ) → length k.variables ≤ x → slice_get d'.variables x ≡ slice_get d.variables x

  module _ (c d : Configuration) (related : Related k core i c d) (r o : ℕ) (y z : Standing) (c' d' : Configuration)
      (go : MonitorGoesOn c d r o y z c' d') where
    in_chart : r < length c.regions
    in_chart = let lt = go.there.1 in omega (lt, related.chart_regions, arith)

    monitor : WatcherImage k core i o
    monitor = rows.watcher o go.state_there go.has

    in_core : i.watcher_of o < length d.regions
    in_core = let lt = monitor.there.1 in omega (lt, related.core_regions, arith)

    here : standing_of c' r ≡ y
    here = stands_same c c' r y go.chart in_chart

    elsewhere : (q : ℕ) → q ≢ r → standing_of c' q ≡ standing_of c q
    elsewhere q ne = stands_other c c' r q y go.chart ne

    core_here : standing_of d' (i.watcher_of o) ≡ z
    core_here = stands_same d d' (i.watcher_of o) z go.core_too in_core

    core_elsewhere : (t : ℕ) → t ≢ i.watcher_of o → standing_of d' t ≡ standing_of d t
    core_elsewhere t ne = stands_other d d' (i.watcher_of o) t z go.core_too ne

    moved_so : RegionMoved k core i c r y c'
    moved_so =
        record {
          here = here;
          elsewhere = elsewhere;
          ends = go.ends;
          was_there = go.was_there;
          is_there = go.is_there;
          inside = go.inside;
          inside_back = go.inside_back;
        }

    pub same_shape : SameShape c c'
    same_shape =
        record {
          ends = ends_alike k core i c r y c' moved_so;
          guards_alike = λ q. ⊎_elim (λ e. ap (λ p. guards (standing_of c' p)) e ∙
              (ap guards here ∙ (go.guards_alike ∙ ap (λ p. guards (standing_of c p)) (sym e)))) (λ ne. ap guards (elsewhere q ne)) (same_or_not q r);
        }

    regions_kept : (q : ℕ) → IsThere k q → Stands k core i c' q (standing_of c' q) (standing_of d' (i.thread_of q))
    regions_kept q there = ⊎_elim same other (same_or_not q r)
      where
        same : q ≡ r → Stands k core i c' q (standing_of c' q) (standing_of d' (i.thread_of q))
        same e =
            subst (λ p. Stands k core i c' p (standing_of c' p) (standing_of d' (i.thread_of p))) (sym e)
            (subst (λ w. Stands k core i c' r w (standing_of d' (i.thread_of r))) (sym here)
            (subst (Stands k core i c' r y) (sym (core_elsewhere (i.thread_of r) (monitor.no_thread r)))
            (stands_kept k core i c c' same_shape r y (standing_of d (i.thread_of r)) go.stands)))

        other : q ≢ r → Stands k core i c' q (standing_of c' q) (standing_of d' (i.thread_of q))
        other ne =
            subst (λ w. Stands k core i c' q w (standing_of d' (i.thread_of q))) (sym (elsewhere q ne))
            (subst (Stands k core i c' q (standing_of c q)) (sym (core_elsewhere (i.thread_of q) (monitor.no_thread q)))
            (stands_kept k core i c c' same_shape q (standing_of c q) (standing_of d (i.thread_of q)) (related.regions q there)))

    monitors_differ : (u : ℕ) → IsState k u → has_aborts (own k u) ≡ true → i.watcher_of u ≡ i.watcher_of o → u ≡ o
    monitors_differ u there has e = one_monitor k core i rows u o there has go.state_there go.has e

    watchers_kept : (u : ℕ) → IsState k u → has_aborts (own k u) ≡ true → Watches k core i u (standing_of c' (holder k u)) (standing_of d' (i.watcher_of u))
    watchers_kept u there has = ⊎_elim its_own other (same_or_not u o)
      where
        its_own : u ≡ o → Watches k core i u (standing_of c' (holder k u)) (standing_of d' (i.watcher_of u))
        its_own e =
            subst (λ v. Watches k core i v (standing_of c' (holder k v)) (standing_of d' (i.watcher_of v))) (sym e)
            (subst (λ w. Watches k core i o w (standing_of d' (i.watcher_of o))) (sym (ap (standing_of c') go.held ∙ here))
            (subst (Watches k core i o y) (sym core_here) go.watches))

        other : u ≢ o → Watches k core i u (standing_of c' (holder k u)) (standing_of d' (i.watcher_of u))
        other differ = subst (Watches k core i u (standing_of c' (holder k u))) (sym core_same) (⊎_elim here_too there_still (same_or_not (holder k u) r))
          where
            core_same : standing_of d' (i.watcher_of u) ≡ standing_of d (i.watcher_of u)
            core_same = core_elsewhere (i.watcher_of u) (λ e. differ (monitors_differ u there has e))

            here_too : holder k u ≡ r → Watches k core i u (standing_of c' (holder k u)) (standing_of d (i.watcher_of u))
            here_too e = subst (λ w. Watches k core i u w (standing_of d (i.watcher_of u))) (sym (ap (standing_of c') e ∙ here))
                (go.watches_others u there has e differ)

            there_still : holder k u ≢ r → Watches k core i u (standing_of c' (holder k u)) (standing_of d (i.watcher_of u))
            there_still ne = subst (λ w. Watches k core i u w (standing_of d (i.watcher_of u))) (sym (elsewhere (holder k u) ne)) (related.watchers u there has)

    not_zero : (n : ℕ) → 0 < n → 0 ≢ n
    not_zero n lt e = absurd (omega (lt, e, arith))

    pub monitor_goes_on : Related k core i c' d'
    monitor_goes_on =
        record {
          more = go.more;
          variables = go.variables;
          flag_count = go.flag_count;
          chart_regions = ap length go.chart ∙ (length-set c.regions r y ∙ related.chart_regions);
          core_regions = ap length go.core_too ∙ (length-set d.regions (i.watcher_of o) z ∙ related.core_regions);
          values = go.values;
          no_chart = elsewhere 0 (not_zero r go.there.0) ∙ related.no_chart;
          no_core = core_elsewhere 0 (not_zero (i.watcher_of o) monitor.there.0) ∙ related.no_core;
          regions = regions_kept;
          watchers = watchers_kept;
          flags = λ s there inner.
              down_still k core i c r y c' moved_so rows d.variables d'.variables go.flags s
              (related.flags s there (back_inside k core i c r y c' moved_so s inner));
          enclosed = λ q s there present around_it.
              still_inside k core i c r y c' moved_so s (related.enclosed q s there (was_present k core i c r y c' moved_so q present) around_it);
          opened = λ s q there inner child.
              is_present k core i c r y c' moved_so q (related.opened s q there (back_inside k core i c r y c' moved_so s inner) child);
          closes_last = λ s tests is.
              ⊎_elim (λ e. go.closes s tests e (sym here ∙ (ap (standing_of c') (sym e) ∙ is)))
              (λ ne. related.closes_last s tests (sym (elsewhere (holder k s) ne) ∙ is))
              (same_or_not (holder k s) r);
          calm = λ q s there around_it guarded_by.
              let was : guards (standing_of c (holder k s)) ≡ true = sym (same_shape.guards_alike (holder k s)) ∙ guarded_by in
              ⊎_elim
              (λ e. absurd (unlike (guards (standing_of c (holder k s))) was
              (none_among (λ v. guards (standing_of c (holder k v))) (around k r) s go.free (subst (λ p. Contains (around k p) s) e around_it))))
              (λ ne. subst IsCalm (sym (elsewhere q ne)) (related.calm q s there around_it was)) (same_or_not q r);
          unseen = λ u s there has around_it guarded_by.
              let was : guards (standing_of c (holder k s)) ≡ true = sym (same_shape.guards_alike (holder k s)) ∙ guarded_by in
              ⊎_elim
              (λ e. absurd (unlike (guards (standing_of c (holder k s))) was
              (none_among (λ v. guards (standing_of c (holder k v))) (around k r) s go.free
              (subst (λ p. Contains (around k p) s) (ap (holder k) e ∙ go.held) around_it))))
              (λ differ.
              still_looks k core i u (standing_of d (i.watcher_of u)) (standing_of d' (i.watcher_of u))
              (core_elsewhere (i.watcher_of u) (λ e. differ (monitors_differ u there has e))) (related.unseen u s there has around_it was))
              (same_or_not u o);
        }
