-- The last strong test of a superstate fails: its inside has its turn, and each thread there goes on behind its strong check.
use Rattle.std.proofs.Common.{◌≡◌, ◌≢◌, ℕ, pos, ◌<◌, ⊎_elim, Bool, true, false, Some, List, [], ◌∷◌, ◌++◌, map, length, slice_get}
use Rattle.std.proofs.Common.{slice_set, Contains, refl, sym, ap, subst, ◌∙◌, arith}
use Rattle.std.proofs.lemmas.List.{length-set}
use Rattle.sc_values.specs.declared.value.Value.TheVariants as value_is
use Rattle.scl_graph_laws.proofs.Searching.{unlike}
use Rattle.core_charts.specs.declared.region.Transition.{Transition}
use Rattle.core_charts.specs.Tests.{weak_aborts, terminations, closing_tests, is_join}
use Rattle.chart_machine.specs.declared.standing.Standing.{Standing}
use Rattle.chart_machine.specs.declared.standing.Standing.TheVariants as at
use Rattle.chart_machine.specs.declared.standing.Configuration.{Configuration}
use Rattle.chart_machine.specs.declared.table.Table.{Table}
use Rattle.chart_machine.specs.Table.{state_at}
use Rattle.chart_machine.specs.Turns.{standing_of, has_ended, guards as has_to_guard, is_guarded}
use Rattle.chart_machine.specs.Steps.{verdict, step}
use Rattle.core_charts.specs.Aborts.{has_aborts}
use Rattle.abort_expansion.specs.Transitions.{raising, go, is_raised}
use Rattle.abort_expansion.specs.Superstates.{stays}
use Rattle.chart_machine_laws.specs.Tree.{IsNested, IsThere, around, holder}
use Rattle.tick_laws.proofs.Lists.{same_or_not, contained}
use Rattle.abort_expansion_laws.specs.CoreRows.{own, IsState, IsSuper, Images, CoreRows, flags_around}
use Rattle.abort_expansion_laws.specs.Related.{monitor_last, LooksFirst, front, is_behind, Stands, within}
use Rattle.abort_expansion_laws.specs.Related.{Watches, waits, looks_strong, looks, elsewhere, raises}
use Rattle.abort_expansion_laws.specs.Related.{raise_each, Stores, IsInside, guarded, open_inside, Closes, Related, IsCalm}
use Rattle.abort_expansion_laws.specs.Related.{calm_within, guards as watch_guards}
use Rattle.abort_expansion_laws.proofs.StageReached.{holds_other}
use Rattle.abort_expansion_laws.proofs.Unchanged.{stands_same, stands_other, no_guards, never_guarded, none_among}
use Rattle.abort_expansion_laws.proofs.KnownVariables.{present_there}
use Rattle.abort_expansion_laws.proofs.StrongNotTaken.{IsGuarding, guarding_back, MonitorGuards, inside_guarding}
use Rattle.abort_expansion_laws.proofs.InsideLeaves.{AloneRows}
use Rattle.abort_expansion_laws.proofs.MoreValues.{verdict_over_more}
use Rattle.abort_expansion_laws.proofs.TestFails.{fails}
use Rattle.abort_expansion_laws.proofs.LaterTicks.{closes_whole}
use Rattle.abort_expansion_laws.proofs.WokenConfigurations.{numbered_from, numbered_are, all_among, raising_is, each_kept}
use Rattle.abort_expansion_laws.proofs.FrontsChanged.{tail_of, HasFirst, stands_to, has_first, stands_dropped}
use Rattle.abort_expansion_laws.proofs.Fronts.{front_same}
use Rattle.abort_expansion_laws.proofs.FrontFirst.{front_first}
use Rattle.abort_expansion_laws.proofs.InsideAround.{one_in_other}
use Rattle.abort_expansion_laws.proofs.LooksFirst.{still_looks}
use Rattle.abort_expansion_laws.proofs.OneMonitor.{one_monitor}
use Rattle.abort_expansion_laws.proofs.RegionMoved.{RegionMoved, ends_alike, back_inside, still_inside, was_present, is_present, down_still}

map_empty : (xs : List (ℕ × Transition)) → map (λ (x : ℕ × Transition). x.1) xs ≡ [] → xs ≡ []
map_empty [] e = refl
map_empty (x ∷ xs) e = absurd cc

module _ (k core : Table) (i : Images) (rows : CoreRows k core i) (lone : AloneRows k core i) (tree : IsNested k)
    (core_children : (s r : ℕ) → Contains (state_at core s).regions r → around core r ≡ s ∷ around core (holder core s))
    (children : (s r : ℕ) → Contains (state_at k s).regions r → around k r ≡ s ∷ around k (holder k s))
    (c d : Configuration) (related : Related k core i c d) (r o x : ℕ) (o_there : IsState k o) (super : IsSuper k o) (t : Transition)
    (stands : standing_of c r ≡ at.Guarding o (t ∷ [])) (monitor : MonitorGuards k core i o t [] (standing_of d (i.watcher_of o)))
    (has : has_aborts (own k o) ≡ true) (flag : (i.flags_of o).strong ≡ Some x) where
  -- the check of a region's thread
  abbrev pub check_of : Bool → ℕ → Transition
  check_of b q = go b (Some (is_raised x)) [] (i.places_of q).left

  pub there : IsThere k r
  there = present_there k core i c d related r (λ e. let wrong : at.Guarding o (t ∷ []) ≡ at.Outside = sym stands ∙ e in absurd cc)

  pub region : IsGuarding k core i r o (standing_of d (i.thread_of r))
  region = guarding_back k core i c r (standing_of c r) (standing_of d (i.thread_of r)) (related.regions r there) o (t ∷ []) stands

  abbrev pub opened_now : Standing
  opened_now = at.Within o (closing_tests (own k o))

  abbrev pub watching_now : Standing
  watching_now = at.Trying (i.watching_of o) (raise_each (λ z. z.immediate) (i.flags_of o).weak (numbered_from 0 (weak_aborts (own k o)))
      ++ monitor_last k core i o)

  abbrev pub c' : Configuration
  c' = record { variables = c.variables; regions = slice_set c.regions r opened_now }

  abbrev pub d1 : Configuration
  d1 = record { variables = d.variables; regions = slice_set d.regions (i.watcher_of o) watching_now }

  in_chart : r < length c.regions
  in_chart = let lt = there.1 in omega (lt, related.chart_regions, arith)

  in_core : i.watcher_of o < length d.regions
  in_core = let lt = (rows.watcher o o_there has).there.1 in omega (lt, related.core_regions, arith)

  pub here : standing_of c' r ≡ opened_now
  here = stands_same c c' r opened_now refl in_chart

  pub elsewhere_in_chart : (q : ℕ) → q ≢ r → standing_of c' q ≡ standing_of c q
  elsewhere_in_chart q ne = stands_other c c' r q opened_now refl ne

  core_here : standing_of d1 (i.watcher_of o) ≡ watching_now
  core_here = stands_same d d1 (i.watcher_of o) watching_now refl in_core

  core_elsewhere : (g : ℕ) → g ≢ i.watcher_of o → standing_of d1 g ≡ standing_of d g
  core_elsewhere g ne = stands_other d d1 (i.watcher_of o) g watching_now refl ne

  thread_same : (q : ℕ) → standing_of d1 (i.thread_of q) ≡ standing_of d (i.thread_of q)
  thread_same q = core_elsewhere (i.thread_of q) ((rows.watcher o o_there has).no_thread q)

  guards_there : has_to_guard (standing_of c (holder k o)) ≡ true
  guards_there = ap has_to_guard (ap (standing_of c) region.held ∙ stands)

  -- ---- the monitor's step

  pub core_stands : standing_of d (i.watcher_of o) ≡ at.Trying (i.watching_of o) (raises (λ z. false) x (monitor.number, t)
      ∷ (raising (λ z. z.immediate) 1 (i.flags_of o).weak 1 (weak_aborts (own k o)) ++ monitor_last k core i o))
  core_stands =
      monitor.is
      ∙ (ap (λ f. at.Trying (i.watching_of o) (raise_each (λ z. false) f ((monitor.number, t) ∷ monitor.others)
      ++ (raising (λ z. z.immediate) 1 (i.flags_of o).weak 1 (weak_aborts (own k o)) ++ monitor_last k core i o))) flag
      ∙ ap (λ others. at.Trying (i.watching_of o) (raise_each (λ z. false) (Some x) ((monitor.number, t) ∷ others)
      ++ (raising (λ z. z.immediate) 1 (i.flags_of o).weak 1 (weak_aborts (own k o)) ++ monitor_last k core i o)))
      (map_empty monitor.others monitor.tests_are))

  pub monitor_steps : verdict c.variables t.trigger ≡ Some false → step core (i.watcher_of o) d ≡ Some d1
  monitor_steps false_there =
      fails core d (i.watcher_of o) (i.watching_of o) (raises (λ z. false) x (monitor.number, t))
      (raising (λ z. z.immediate) 1 (i.flags_of o).weak 1 (weak_aborts (own k o)) ++ monitor_last k core i o)
      (never_guarded k core i rows c d related (around core (i.watcher_of o))) core_stands
      (subst (λ vs. verdict vs t.trigger ≡ Some false) (sym related.variables) (verdict_over_more related.more c.variables t.trigger false false_there))
      ∙ ap (λ ts. Some (record { variables = d.variables; regions = slice_set d.regions (i.watcher_of o) (at.Trying (i.watching_of o) ts) }))
      (ap (λ zs. zs ++ monitor_last k core i o) (raising_is (λ z. z.immediate) (i.flags_of o).weak 0 (weak_aborts (own k o))))

  pub nobody_guards : (g : ℕ) → has_to_guard (standing_of d1 g) ≡ false
  nobody_guards g =
      ⊎_elim (λ e. ap (λ z. has_to_guard (standing_of d1 z)) e ∙ ap has_to_guard core_here)
      (λ ne. ap has_to_guard (core_elsewhere g ne) ∙ no_guards k core i rows c d related g) (same_or_not g (i.watcher_of o))

  pub flag_down : slice_get d1.variables x ≡ Some (value_is.Int (pos 0))
  flag_down =
      subst (λ f. Stores k core i d.variables f 0) flag
      (related.flags o o_there (subst (IsInside k core i o) (sym (ap (standing_of c) region.held ∙ stands)) (guarded (t ∷ [])))).strong

  -- ---- who guards, before and after

  module _ (free : is_guarded k c (around k r) ≡ false) where
    -- nobody guards around it
    free_around : (s : ℕ) → Contains (around k (holder k o)) s → has_to_guard (standing_of c (holder k s)) ≡ false
    free_around s h =
        none_among (λ u. has_to_guard (standing_of c (holder k u))) (around k r) s free (subst (λ q. Contains (around k q) s) region.held h)

    -- of the superstates around a region inside, another one is held elsewhere
    held_elsewhere : (q s : ℕ) → Contains (around k q) o → Contains (around k q) s → s ≢ o → holder k s ≢ r
    held_elsewhere q s inner h ne e =
        ⊎_elim ne
        (⊎_elim (λ deeper. holds_other k tree r o (subst (λ p. Contains (around k p) o) e deeper) region.held)
        (λ outer. holds_other k tree r s (subst (λ p. Contains (around k p) s) region.held outer) e))
        (one_in_other k tree (around k q) q s o refl h inner)

    front_one : (q : ℕ) (b : Bool) → Contains (around k q) o → front k core i b c q ≡ check_of b q ∷ front k core i b c' q
    front_one q b inner =
        front_first k core i tree c c' o x q inner guards_there flag free_around (ap has_to_guard (ap (standing_of c') region.held ∙ here))
        (λ s h ne. ap has_to_guard (elsewhere_in_chart (holder k s) (held_elsewhere q s inner h ne))) b

    -- who is not inside sees the same superstates guard
    front_as_before : (q : ℕ) → IsThere k q → (Contains (around k q) o → ⊥) → standing_of c q ≢ at.Outside → (b : Bool) →
        front k core i b c' q ≡ front k core i b c q
    front_as_before q is out present =
        front_same k core i c c' q
        (λ s h.
        ap has_to_guard
        (elsewhere_in_chart (holder k s)
        (λ e.
        out (subst (Contains (around k q))
        (inside_guarding k core i o s (standing_of c (holder k s)) (related.enclosed q s is present h) (t ∷ []) (ap (standing_of c) e ∙ stands)) h))))

    -- ---- where everybody stands then

    opened_inside : (s : ℕ) → IsInside k core i s opened_now → s ≡ o
    opened_inside s h = of_standing opened_now h refl
      where
        of_standing : (w : Standing) → IsInside k core i s w → w ≡ opened_now → s ≡ o
        of_standing _ (guarded tests) f = absurd cc
        of_standing _ (open_inside tests) f = cc

    moved_so : RegionMoved k core i c r opened_now c'
    moved_so =
        record {
          here = here;
          elsewhere = elsewhere_in_chart;
          ends = sym (ap has_ended stands);
          was_there = λ out. let wrong : at.Guarding o (t ∷ []) ≡ at.Outside = sym stands ∙ out in absurd cc;
          is_there = λ out. let wrong : opened_now ≡ at.Outside = out in absurd cc;
          inside = λ s held h.
              let one : s ≡ o = inside_guarding k core i o s (standing_of c r) h (t ∷ []) stands in
              subst (λ v. IsInside k core i v opened_now) (sym one) (open_inside (closing_tests (own k o)));
          inside_back = λ s held h.
              subst (IsInside k core i s) (sym stands)
              (subst (λ v. IsInside k core i v (at.Guarding o (t ∷ []))) (sym (opened_inside s h)) (guarded (t ∷ [])));
        }

    pub same_ends : (q : ℕ) → has_ended (standing_of c' q) ≡ has_ended (standing_of c q)
    same_ends = ends_alike k core i c r opened_now c' moved_so

    calm_inside : (q : ℕ) → IsThere k q → Contains (around k q) o → IsCalm (standing_of c q)
    calm_inside q is inner = related.calm q o is inner guards_there

    not_inside_itself : Contains (around k r) o → ⊥
    not_inside_itself inner = holds_other k tree r o inner region.held

    -- each thread inside has its check first, or nothing to check
    pub first_inside : (q : ℕ) → IsThere k q → Contains (around k q) o → HasFirst (λ b. check_of b q) (standing_of d1 (i.thread_of q))
    first_inside q is inner =
        subst (HasFirst (λ b. check_of b q)) (sym (thread_same q))
        (has_first k core i c c' same_ends q (λ b. check_of b q) (λ b. front_one q b inner) (standing_of c q) (standing_of d (i.thread_of q))
        (related.regions q is) (calm_inside q is inner))

    module _ (e : Configuration) (variables : e.variables ≡ d1.variables) (size : length e.regions ≡ length d1.regions)
        (passed : (q : ℕ) → IsThere k q → Contains (around k q) o → standing_of e (i.thread_of q) ≡ tail_of (standing_of d1 (i.thread_of q)))
        (others : (g : ℕ) → ((q : ℕ) → IsThere k q → Contains (around k q) o → g ≢ i.thread_of q) → standing_of e g ≡ standing_of d1 g) where
      thread_kept : (q : ℕ) → (Contains (around k q) o → ⊥) → standing_of e (i.thread_of q) ≡ standing_of d (i.thread_of q)
      thread_kept q out =
          others (i.thread_of q) (λ p is inner f. out (subst (λ v. Contains (around k v) o) (sym (rows.region_once q p f)) inner)) ∙ thread_same q

      watcher_kept : (u : ℕ) → IsState k u → has_aborts (own k u) ≡ true → standing_of e (i.watcher_of u) ≡ standing_of d1 (i.watcher_of u)
      watcher_kept u is has_too = others (i.watcher_of u) (λ q q_there inner f. (rows.watcher u is has_too).no_thread q (sym f))

      monitors_differ : (u : ℕ) → IsState k u → has_aborts (own k u) ≡ true → i.watcher_of u ≡ i.watcher_of o → u ≡ o
      monitors_differ u is has_too f = one_monitor k core i rows u o is has_too o_there has f

      regions_now : (q : ℕ) → IsThere k q → Stands k core i c' q (standing_of c' q) (standing_of e (i.thread_of q))
      regions_now q is = ⊎_elim own_region other_region (same_or_not q r)
        where
          apart : stays (flags_around k core i r) (own k o) ≡ false
          apart = rw (has) refl

          still : is_behind k core i c' o ≡ false
          still = rw (has) refl

          own_region : q ≡ r → Stands k core i c' q (standing_of c' q) (standing_of e (i.thread_of q))
          own_region f =
              subst (λ v. Stands k core i c' v (standing_of c' v) (standing_of e (i.thread_of v))) (sym f)
              (subst (λ w. Stands k core i c' r w (standing_of e (i.thread_of r))) (sym here)
              (subst (Stands k core i c' r opened_now) (sym (thread_kept r not_inside_itself ∙ region.is))
              (within o region.join (closing_tests (own k o)) super region.held apart still region.leads)))

          inside_region : q ≢ r → Contains (around k q) o → Stands k core i c' q (standing_of c' q) (standing_of e (i.thread_of q))
          inside_region ne inner =
              subst (λ w. Stands k core i c' q w (standing_of e (i.thread_of q))) (sym (elsewhere_in_chart q ne))
              (subst (Stands k core i c' q (standing_of c q)) (sym (passed q is inner ∙ ap tail_of (thread_same q)))
              (stands_dropped k core i c c' same_ends q (λ b. check_of b q) (λ b. front_one q b inner) (standing_of c q)
              (standing_of d (i.thread_of q)) (related.regions q is) (calm_inside q is inner)))

          outside_region : q ≢ r → (Contains (around k q) o → ⊥) → Stands k core i c' q (standing_of c' q) (standing_of e (i.thread_of q))
          outside_region ne out =
              subst (λ w. Stands k core i c' q w (standing_of e (i.thread_of q))) (sym (elsewhere_in_chart q ne))
              (subst (Stands k core i c' q (standing_of c q)) (sym (thread_kept q out))
              (stands_to k core i c c' same_ends q (standing_of c q) (standing_of d (i.thread_of q)) (related.regions q is)
              (λ present b. front_as_before q is out present b)))

          other_region : q ≢ r → Stands k core i c' q (standing_of c' q) (standing_of e (i.thread_of q))
          other_region ne = ⊎_elim (inside_region ne) (outside_region ne) (contained (around k q) o)

      watches_now : Watches k core i o opened_now watching_now
      watches_now =
          subst (λ zs. Watches k core i o (at.Within o (zs ++ terminations (own k o))) watching_now) (numbered_are 0 (weak_aborts (own k o)))
          (waits (numbered_from 0 (weak_aborts (own k o))) (terminations (own k o)) (all_among (weak_aborts (own k o)))
          (each_kept (λ z. is_join z.kind) (own k o)))

      -- another superstate of the region is not watched
      not_watched : (u : ℕ) → u ≢ o → (a b : Standing) → Watches k core i u a b → a ≡ at.Guarding o (t ∷ []) → Watches k core i u opened_now b
      not_watched u ne _ _ (watch_guards some among) f = let same : u ≡ o = cc in absurd (ne same)
      not_watched u ne _ _ (looks_strong yet seen parted some among) f = let same : u ≡ o = cc in absurd (ne same)
      not_watched u ne _ _ (waits some ends among only) f = absurd cc
      not_watched u ne _ _ (looks yet seen parted first some ends among only) f = absurd cc
      not_watched u ne a _ (elsewhere z one two) f =
          elsewhere opened_now (λ tests g. absurd cc) (λ tests g. let same : o ≡ u = cc in ne (sym same))

      watchers_now : (u : ℕ) → IsState k u → has_aborts (own k u) ≡ true → Watches k core i u (standing_of c' (holder k u)) (standing_of e (i.watcher_of u))
      watchers_now u is has_too = ⊎_elim its_own other (same_or_not u o)
        where
          its_own : u ≡ o → Watches k core i u (standing_of c' (holder k u)) (standing_of e (i.watcher_of u))
          its_own f =
              subst (λ v. Watches k core i v (standing_of c' (holder k v)) (standing_of e (i.watcher_of v))) (sym f)
              (subst (λ w. Watches k core i o w (standing_of e (i.watcher_of o))) (sym (ap (standing_of c') region.held ∙ here))
              (subst (Watches k core i o opened_now) (sym (watcher_kept o o_there has ∙ core_here)) watches_now))

          other : u ≢ o → Watches k core i u (standing_of c' (holder k u)) (standing_of e (i.watcher_of u))
          other ne =
              subst (Watches k core i u (standing_of c' (holder k u)))
              (sym (watcher_kept u is has_too ∙ core_elsewhere (i.watcher_of u) (λ f. ne (monitors_differ u is has_too f))))
              (⊎_elim
              (λ f. subst (λ w. Watches k core i u w (standing_of d (i.watcher_of u))) (sym (ap (standing_of c') f ∙ here))
              (not_watched u ne (standing_of c (holder k u)) (standing_of d (i.watcher_of u)) (related.watchers u is has_too) (ap (standing_of c) f ∙ stands)))
              (λ f. subst (λ w. Watches k core i u w (standing_of d (i.watcher_of u))) (sym (elsewhere_in_chart (holder k u) f))
              (related.watchers u is has_too))
              (same_or_not (holder k u) r))

      closes_now : (s : ℕ) (tests : List Transition) → standing_of c' (holder k s) ≡ at.Within s tests → Closes k core i s tests
      closes_now s tests f = ⊎_elim same other (same_or_not (holder k s) r)
        where
          same : holder k s ≡ r → Closes k core i s tests
          same g =
              let both : opened_now ≡ at.Within s tests = sym here ∙ (ap (standing_of c') (sym g) ∙ f) in
              let one : o ≡ s = cc in
              let are : closing_tests (own k o) ≡ tests = cc in
              subst (Closes k core i s) (ap (λ v. closing_tests (own k v)) (sym one) ∙ are) (closes_whole k core i s)

          other : holder k s ≢ r → Closes k core i s tests
          other ne = related.closes_last s tests (sym (elsewhere_in_chart (holder k s) ne) ∙ f)

      calm_now : (q s : ℕ) → IsThere k q → Contains (around k q) s → has_to_guard (standing_of c' (holder k s)) ≡ true → IsCalm (standing_of c' q)
      calm_now q s is inner guard = ⊎_elim same other (same_or_not (holder k s) r)
        where
          same : holder k s ≡ r → IsCalm (standing_of c' q)
          same f = let wrong : false ≡ true = sym (ap has_to_guard (ap (standing_of c') f ∙ here)) ∙ guard in absurd cc

          other : holder k s ≢ r → IsCalm (standing_of c' q)
          other ne =
              ⊎_elim (λ f. subst IsCalm (sym (ap (standing_of c') f ∙ here)) (calm_within o (closing_tests (own k o))))
              (λ other_region. subst IsCalm (sym (elsewhere_in_chart q other_region))
              (related.calm q s is inner (ap has_to_guard (sym (elsewhere_in_chart (holder k s) ne)) ∙ guard))) (same_or_not q r)

      -- the monitors inside stand as before
      unseen_now : (u s : ℕ) → IsState k u → has_aborts (own k u) ≡ true → Contains (around k (holder k u)) s →
          has_to_guard (standing_of c' (holder k s)) ≡ true → LooksFirst k core i u s (standing_of e (i.watcher_of u))
      unseen_now u s is has_too inner guard =
          ⊎_elim
          (λ f. let wrong : false ≡ true = sym (ap has_to_guard (ap (standing_of c') f ∙ here)) ∙ guard in absurd cc)
          (λ ne.
          let was : has_to_guard (standing_of c (holder k s)) ≡ true = ap has_to_guard (sym (elsewhere_in_chart (holder k s) ne)) ∙ guard in
          ⊎_elim
          (λ f.
          let around_r : Contains (around k r) s = subst (λ q. Contains (around k q) s) (ap (holder k) f ∙ region.held) inner in
          absurd (unlike (has_to_guard (standing_of c (holder k s))) was
          (none_among (λ v. has_to_guard (standing_of c (holder k v))) (around k r) s free around_r)))
          (λ differ.
          still_looks k core i u (standing_of d (i.watcher_of u)) (standing_of e (i.watcher_of u))
          (watcher_kept u is has_too ∙ core_elsewhere (i.watcher_of u) (λ f. differ (monitors_differ u is has_too f)))
          (related.unseen u s is has_too inner was))
          (same_or_not u o))
          (same_or_not (holder k s) r)

      not_zero : (n : ℕ) → 0 < n → 0 ≢ n
      not_zero n lt f = absurd (omega (lt, f, arith))

      pub related_then : Related k core i c' e
      related_then =
          record {
            more = related.more;
            variables = variables ∙ related.variables;
            flag_count = ap length variables ∙ related.flag_count;
            chart_regions = length-set c.regions r opened_now ∙ related.chart_regions;
            core_regions = size ∙ (length-set d.regions (i.watcher_of o) watching_now ∙ related.core_regions);
            values = related.values;
            no_chart = elsewhere_in_chart 0 (not_zero r there.0) ∙ related.no_chart;
            no_core =
                others 0 (λ q is inner f. let lt = (rows.region q is).there.0 in absurd (omega (lt, f, arith))) ∙
                (core_elsewhere 0 (not_zero (i.watcher_of o) (rows.watcher o o_there has).there.0) ∙ related.no_core);
            regions = regions_now;
            watchers = watchers_now;
            flags = λ s is h.
                down_still k core i c r opened_now c' moved_so rows d.variables e.variables (λ x high. ap (λ vs. slice_get vs x) variables) s
                (related.flags s is (back_inside k core i c r opened_now c' moved_so s h));
            enclosed = λ q s is present inner.
                still_inside k core i c r opened_now c' moved_so s
                (related.enclosed q s is (was_present k core i c r opened_now c' moved_so q present) inner);
            opened = λ s q is h child.
                is_present k core i c r opened_now c' moved_so q
                (related.opened s q is (back_inside k core i c r opened_now c' moved_so s h) child);
            closes_last = closes_now;
            calm = calm_now;
            unseen = unseen_now;
          }
