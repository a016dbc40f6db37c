-- Each monitor inside of a superstate whose weak abort is taken leaves: it sees the raised flag, and is not to end by its count.
use Rattle.abort_expansion_laws.proofs.WeakSeen.{some_still_in}
use Rattle.std.proofs.Common.{◌≡◌, ◌≢◌, ℕ, ◌<◌, inl, inr, Bool, true, false, pos, Option, Some, None, List, [], map}
use Rattle.std.proofs.Common.{◌∷◌, ◌++◌, slice_get, Contains, refl, sym, ap, subst, ◌∙◌, arith}
use Rattle.sc_values.specs.declared.value.Value.TheVariants as value_is
use Rattle.core_charts.specs.declared.region.Transition.{Transition}
use Rattle.core_charts.specs.Tests.{terminations, is_join, is_weak}
use Rattle.core_charts.specs.Aborts.{has_aborts}
use Rattle.chart_machine.specs.declared.standing.Standing.{Standing}
use Rattle.chart_machine.specs.declared.standing.Standing.TheVariants as at
use Rattle.chart_machine.specs.declared.standing.Configuration.{Configuration}
use Rattle.chart_machine.specs.declared.table.Table.{Table}
use Rattle.chart_machine.specs.Table.{state_at}
use Rattle.chart_machine.specs.Turns.{standing_of, has_work, inside}
use Rattle.chart_machine.specs.Steps.{verdict}
use Rattle.abort_expansion.specs.Transitions.{is_raised, is_number, go, weak_checks}
use Rattle.abort_expansion.specs.Superstates.{all_ended}
use Rattle.abort_expansion_laws.specs.Stages.{Correspondence, IsSilent}
use Rattle.abort_expansion_laws.proofs.Supplying.{silent_test}
use Rattle.chart_machine_laws.proofs.LyingIn.{IsNested, around, holder, head_in, tail_in}
use Rattle.abort_expansion_laws.proofs.TablesCorrespond.{IsThere}
use Rattle.abort_expansion_laws.proofs.MoreValues.{other_verdict}
use Rattle.abort_expansion_laws.proofs.FlagAccess.{number_access}
use Rattle.abort_expansion_laws.specs.CoreRows.{own, IsState, Images, CoreRows, flags_around}
use Rattle.abort_expansion_laws.specs.Related.{IsInside, open_inside, not_ended, Stores, Related}
use Rattle.abort_expansion_laws.proofs.KnownVariables.{present_there}
use Rattle.abort_expansion_laws.proofs.StartingRegions.{CounterRows}
use Rattle.abort_expansion_laws.proofs.OpensFork.{OpeningRows}
use Rattle.abort_expansion_laws.proofs.TickStarts.{StartRows}
use Rattle.abort_expansion_laws.proofs.MayLeave.{fails_before, out, tries, is_forked}
use Rattle.abort_expansion_laws.proofs.InsideLeaves.{AloneRows}
use Rattle.abort_expansion_laws.proofs.LeftTests.{kept_is}
use Rattle.abort_expansion_laws.proofs.LaterTicks.{weak_no_join}
use Rattle.abort_expansion_laws.proofs.TickStarts.{some_kept}
use Rattle.abort_expansion_laws.proofs.StageReached.{holds_other}
use Rattle.abort_expansion_laws.specs.CoreRows.{WatcherImage}
use Rattle.abort_expansion_laws.specs.Related.{Watches, waits, looks_strong, looks, elsewhere, monitor_last, raise_each}
use Rattle.abort_expansion_laws.specs.Related.{guards as watch_guards}
use Rattle.abort_expansion_laws.proofs.WeakSeen as seen

module _ (k core : Table) (i : Images) (rows : CoreRows k core i) (lone : AloneRows k core i) (tree : IsNested k)
    (deep : (q s : ℕ) → Contains (around core q) s → holder core s < q) (alone : (v : ℕ) → (state_at core v).regions ≡ [] → inside core v ≡ [])
    (core_children : (s r : ℕ) → Contains (state_at core s).regions r → around core r ≡ s ∷ around core (holder core s))
    (children : (s r : ℕ) → Contains (state_at k s).regions r → around k r ≡ s ∷ around k (holder k s))
    (counts : ℕ → Bool) (written_at : ℕ → ℕ) (counters : CounterRows k core i rows counts written_at) (opening : OpeningRows k core i rows)
    (start_rows : StartRows k core i rows) (written_low : (x : ℕ) → written_at x < 3)
    (strong_at : (s x : ℕ) → (i.flags_of s).strong ≡ Some x → written_at x ≡ 0)
    (c d : Configuration) (related : Related k core i c d) (r o x : ℕ) (flag : (i.flags_of o).weak ≡ Some x) (held : holder k o ≡ r)
    (early : (s y : ℕ) → Contains (around k r) s → (i.flags_of s).weak ≡ Some y → written_at y ≡ 0)
    (o_there : IsState k o) (open_tests : List Transition) (stands : standing_of c r ≡ at.Within o open_tests)
    (idle : (q : ℕ) → IsThere k q → Contains (around k q) o → has_work k c (standing_of c q) ≡ false)
    (first : Configuration) (raised : verdict first.variables (Some (is_raised x)) ≡ Some true)
    (values : (y : ℕ) → y ≢ x → slice_get first.variables y ≡ slice_get d.variables y)
    (same : (g : ℕ) → g ≢ i.watcher_of o → standing_of first g ≡ standing_of d g) where
  abbrev corr : Correspondence
  corr = seen.corr k core i rows lone tree deep alone core_children children counts written_at counters opening start_rows written_low strong_at c d
      related r o x flag held early
      o_there open_tests stands idle first raised values same

  abbrev Leaves : ℕ → Standing → Type 0
  Leaves = seen.Leaves k core i rows lone tree deep alone core_children children counts written_at counters opening start_rows written_low strong_at c d
      related r o x flag held early
      o_there open_tests stands idle first raised values same

  abbrev LeavesAt : ℕ → List Transition → Type 0
  LeavesAt = seen.LeavesAt k core i rows lone tree deep alone core_children children counts written_at counters opening start_rows written_low strong_at c
      d related r o x flag held early
      o_there open_tests stands idle first raised values same

  abbrev in_fork : (q s : ℕ) → Contains (around k q) s → Contains (around core (i.thread_of q)) (i.main_of s)
  in_fork = seen.in_fork k core i rows lone tree deep alone core_children children counts written_at counters opening start_rows written_low strong_at c d
      related r o x flag held early
      o_there open_tests stands idle first raised values same

  abbrev in_its_fork : (s : ℕ) → IsState k s → has_aborts (own k s) ≡ true → IsThere k (holder k s) → (tests : List Transition) →
      standing_of c (holder k s) ≡ at.Within s tests → is_forked (standing_of first (i.thread_of (holder k s))) ≡ true
  in_its_fork = seen.in_its_fork k core i rows lone tree deep alone core_children children counts written_at counters opening start_rows written_low
      strong_at c d related r o x flag held early
      o_there open_tests stands idle first raised values same

  abbrev works_not : (q : ℕ) → IsThere k q → Contains (around k q) o → (w : Standing) → standing_of c q ≡ w → has_work k c w ≡ true → ⊥
  works_not = seen.works_not k core i rows lone tree deep alone core_children children counts written_at counters opening start_rows written_low strong_at
      c d related r o x flag held early
      o_there open_tests stands idle first raised values same

  -- ---- each monitor inside

  module _ (u : ℕ) (u_there : IsState k u) (some : has_aborts (own k u) ≡ true) (in_o : Contains (around k (holder k u)) o) where
    abbrev g : ℕ
    g = i.watcher_of u

    image : WatcherImage k core i u
    image = rows.watcher u u_there some

    g_in_u : Contains (around core (i.watcher_of u)) (i.main_of u)
    g_in_u = subst (λ zs. Contains zs (i.main_of u)) (sym image.encloses) (head_in (i.main_of u) (around core (i.thread_of (holder k u))))

    outer_around : (s : ℕ) → Contains (around k r) s → Contains (around k (holder k u)) s
    outer_around s outer =
        seen.outer_around k core i rows lone tree deep alone core_children children counts written_at counters opening start_rows written_low strong_at c
        d related r o x flag held early
        o_there open_tests stands idle first raised values same (holder k u) s in_o outer

    in_outer : (s : ℕ) → Contains (around k (holder k u)) s → Contains (around core (i.watcher_of u)) (i.main_of s)
    in_outer s outer =
        subst (λ zs. Contains zs (i.main_of s)) (sym image.encloses)
        (tail_in (i.main_of u) (i.main_of s) (around core (i.thread_of (holder k u))) (in_fork (holder k u) s outer))

    checks_leave : LeavesAt (i.watcher_of u) (weak_checks true 1 (flags_around k core i (holder k u)))
    checks_leave =
        seen.checks_leave k core i rows lone tree deep alone core_children children counts written_at counters opening start_rows written_low strong_at c
        d related r o x flag held early
        o_there open_tests stands idle first raised values same (i.watcher_of u) 1 (in_outer o in_o) (λ s outer. in_outer s (outer_around s outer))
        (ap (λ n. (state_at core n).entered) image.ended ∙ image.watched) (holder k u) in_o

    module _ (is : IsThere k (holder k u)) (tests : List Transition) (stood : standing_of c (holder k u) ≡ at.Within u tests) where
      inside_u : IsInside k core i u (standing_of c (holder k u))
      inside_u = subst (IsInside k core i u) (sym stood) (open_inside tests)

      count_leaves : (y : ℕ) → (i.flags_of u).counter ≡ Some y → LeavesAt (i.watcher_of u)
          (go true (Some (is_number y 0)) [] 1 ∷ weak_checks true 1 (flags_around k core i (holder k u)))
      count_leaves y counter =
          fails_before (go true (Some (is_number y 0)) [] 1) (weak_checks true 1 (flags_around k core i (holder k u)))
          (other_verdict y (not_ended k core i c u) 0 first.variables (values y differs ∙ stored) still) (Some (i.thread_of (holder k u), 3))
          (inr (inr (inl (record {
            inner = i.thread_of (holder k u);
            is = refl;
            later = let up = deep (i.watcher_of u) (i.main_of u) g_in_u in let its = rows.held u in omega (up, its, arith);
            lies_in = in_fork (holder k u) o in_o;
            forked = in_its_fork u u_there some is tests stood;
          }))))
          (subst (IsSilent corr (i.watcher_of u) (Some (i.thread_of (holder k u), 3))) (sym (number_access y 0))
          (silent_test corr (i.watcher_of u) (Some (i.thread_of (holder k u), 3)) y (rows.counter_added u y counter)
          (inr (
            inl (counters.counter_counts u y counter, ap i.watcher_of (sym owner)),
            (3, ap (λ (h : ℕ). Some (h, 3)) (sym (ap (λ v. holder core (i.main_of v)) owner ∙ rows.held u)), written_low y),
          )))) checks_leave
        where
          owner : rows.of_flag y ≡ u
          owner = counters.counter_of u y counter

          differs : y ≢ x
          differs e =
              let same_one : u ≡ o = sym owner ∙ (ap rows.of_flag e ∙ (opening.flag_of o x (inr (inl flag))).0) in
              holds_other k tree (holder k o) o (subst (λ v. Contains (around k (holder k v)) o) same_one in_o) refl

          stored : slice_get d.variables y ≡ Some (value_is.Int (pos (not_ended k core i c u)))
          stored = subst (λ f. Stores k core i d.variables f (not_ended k core i c u)) counter (related.flags u u_there inside_u).counter

          joined : (t : Transition) × ((behind_it : List Transition) × (terminations (own k u) ≡ t ∷ behind_it))
          joined = some_kept (λ t. is_join t.kind) (own k u) (counters.counter_joins u y counter)

          still : not_ended k core i c u ≢ 0
          still =
              some_still_in k core i c u tests (related.closes_last u tests stood) joined.0 joined.1.0 joined.1.1
              (sym (ap (has_work k c) stood) ∙ idle (holder k u) is in_o)

      last_leaves : LeavesAt (i.watcher_of u) (monitor_last k core i u)
      last_leaves = by_counter (i.flags_of u).counter refl
        where
          by_counter : (f : Option ℕ) → (i.flags_of u).counter ≡ f → LeavesAt (i.watcher_of u) (monitor_last k core i u)
          by_counter None e =
              subst (λ f. LeavesAt (i.watcher_of u) (all_ended f ++ weak_checks true 1 (flags_around k core i (holder k u)))) (sym e) checks_leave
          by_counter (Some y) e =
              subst (λ f. LeavesAt (i.watcher_of u) (all_ended f ++ weak_checks true 1 (flags_around k core i (holder k u)))) (sym e) (count_leaves y e)

    none_raised : (flag : Option ℕ) → raise_each (λ z. z.immediate) flag [] ≡ []
    none_raised None = refl
    none_raised (Some y) = refl

    there_by : {w : Standing} → standing_of c (holder k u) ≡ w → w ≢ at.Outside → IsThere k (holder k u)
    there_by same present = present_there k core i c d related (holder k u) (λ z. present (sym same ∙ z))

    pub monitor_leaves : (w y : Standing) → standing_of c (holder k u) ≡ w → Watches k core i u w y → Leaves (i.watcher_of u) y
    monitor_leaves _ _ e (watch_guards among all) =
        absurd (works_not (holder k u) (there_by e (λ z. absurd cc)) in_o (at.Guarding u (map (λ z. z.1) among)) e refl)
    monitor_leaves _ _ e (looks_strong yet seen parted among all) =
        absurd (works_not (holder k u) (there_by e (λ z. absurd cc)) in_o (at.Guarding u (map (λ z. z.1) among)) e refl)
    monitor_leaves _ _ e (waits [] ends all only) =
        subst (λ zs. Leaves (i.watcher_of u) (at.Trying (i.watching_of u) (zs ++ monitor_last k core i u))) (sym (none_raised (i.flags_of u).weak))
        (tries (i.watching_of u) (monitor_last k core i u) (alone (i.watching_of u) (ap (λ z. z.regions) image.row))
        (last_leaves (present_there k core i c d related (holder k u) (λ z. let wrong : at.Within u ends ≡ at.Outside = sym e ∙ z in absurd cc)) ends e))
    monitor_leaves _ _ e (waits (z ∷ among) ends all only) =
        let weak : is_weak z.1.kind ≡ true = kept_is (λ t. is_weak t.kind) (own k u) z.0 z.1 all.0 in
        let no_join : is_join z.1.kind ≡ false = weak_no_join z.1.kind weak in
        absurd (works_not (holder k u)
        (present_there k core i c d related (holder k u)
        (λ w. let wrong : at.Within u (z.1 ∷ (map (λ v. v.1) among ++ ends)) ≡ at.Outside = sym e ∙ w in absurd cc)) in_o
        (at.Within u (z.1 ∷ (map (λ v. v.1) among ++ ends))) e (rw (no_join) refl))
    monitor_leaves _ _ e (looks yet seen parted z among ends all only) =
        let weak : is_weak z.1.kind ≡ true = kept_is (λ t. is_weak t.kind) (own k u) z.0 z.1 all.0 in
        let no_join : is_join z.1.kind ≡ false = weak_no_join z.1.kind weak in
        absurd (works_not (holder k u)
        (present_there k core i c d related (holder k u)
        (λ w. let wrong : at.Within u (z.1 ∷ (map (λ v. v.1) among ++ ends)) ≡ at.Outside = sym e ∙ w in absurd cc)) in_o
        (at.Within u (z.1 ∷ (map (λ v. v.1) among ++ ends))) e (rw (no_join) refl))
    monitor_leaves _ _ e (elsewhere w one two) = out
