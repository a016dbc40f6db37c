-- The termination of a superstate that is split: its monitor finds that all regions have ended, and ends; the fork is joined.
use Rattle.std.proofs.Common.{◌≡◌, ◌≢◌, ℕ, ◌<◌, ◌⊎◌, inl, inr, ⊎_elim, Bool, true, false, not, pos, Option, Some, None, List, []}
use Rattle.std.proofs.Common.{◌∷◌, ◌++◌, map, length, slice_get, slice_set, Contains, refl, sym, ap, subst, ◌∙◌, arith, if◌then◌else◌}
use Rattle.std.proofs.lemmas.List.{length-set}
use Rattle.sc_values.specs.declared.value.Value.TheVariants as value_is
use Rattle.sc_values.specs.Access.{Access}
use Rattle.core_charts.specs.declared.region.Transition.{Transition}
use Rattle.core_charts.specs.Tests.{at_once, is_weak, is_join}
use Rattle.core_charts.specs.Aborts.{has_aborts}
use Rattle.chart_machine.specs.declared.standing.Standing.{Standing}
use Rattle.chart_machine.specs.declared.standing.Standing.TheVariants as at
use Rattle.chart_machine.specs.declared.standing.Configuration.{Configuration}
use Rattle.chart_machine.specs.declared.table.Table.{Table}
use Rattle.chart_machine.specs.Table.{state_at}
use Rattle.chart_machine.specs.Turns.{standing_of, has_ended, has_work, guards as has_to_guard, is_guarded, inside}
use Rattle.chart_machine.specs.Steps.{to, state_in, moved, access_of, step}
use Rattle.chart_machine.specs.Machine.{machine}
use Rattle.abort_expansion.specs.Transitions.{put, go, is_number, weak_checks}
use Rattle.abort_expansion.specs.Superstates.{stays, all_ended}
use Rattle.tick_laws.proofs.Lists.{same_or_not, contained, contains_map}
use Rattle.chart_lowering_laws.proofs.Finished.{each_all}
use Rattle.abort_expansion_laws.specs.Stages.{Entry, Silent, Correspondence, IsSilent}
use Rattle.abort_expansion_laws.proofs.Supplying.{silent_test, tests, climbs_fewer}
use Rattle.abort_expansion_laws.proofs.Segments.{Segment}
use Rattle.abort_expansion_laws.proofs.SilentSteps.{AtHome, climbs_at, silent_step, no_step}
use Rattle.chart_machine_laws.proofs.LyingIn.{IsNested, around, holder, none_in, head_or_tail, head_in, tail_in}
use Rattle.abort_expansion_laws.proofs.TablesCorrespond.{IsThere}
use Rattle.abort_expansion_laws.proofs.MoreValues.{same_verdict}
use Rattle.abort_expansion_laws.proofs.FlagAccess.{number_access}
use Rattle.abort_expansion_laws.specs.CoreRows.{own, IsState, IsSuper, joins, Images, CoreRows, WatcherImage, SplitImage, flags_around, watchers}
use Rattle.abort_expansion_laws.specs.CoreRows.{behind_transitions, pair}
use Rattle.abort_expansion_laws.specs.Related.{raise_each, Watches, guards as watch_guards, waits, looks_strong}
use Rattle.abort_expansion_laws.specs.Related.{looks, elsewhere, IsInside, open_inside, still_in}
use Rattle.abort_expansion_laws.specs.Related.{not_ended, Stores, Related, monitor_last}
use Rattle.abort_expansion_laws.proofs.Unchanged.{no_guards, unguarded}
use Rattle.abort_expansion_laws.proofs.StageReached.{Stage, holds_other, inside_in}
use Rattle.abort_expansion_laws.proofs.KnownVariables.{in_either}
use Rattle.abort_expansion_laws.proofs.StartingRegions.{CounterRows}
use Rattle.abort_expansion_laws.proofs.LeftTests.{kept_is}
use Rattle.abort_expansion_laws.proofs.LaterTicks.{weak_no_join}
use Rattle.abort_expansion_laws.proofs.InsideAround.{inside_around}
use Rattle.abort_expansion_laws.proofs.Leaving.{drops, at_number, set_here, set_other, drops_in, drops_out, drops_length, leaves, joined}
use Rattle.chart_machine_laws.proofs.ChartTables.{around_there}
use Rattle.abort_expansion_laws.proofs.TerminationNext as next
use Rattle.abort_expansion_laws.proofs.TerminationImage as taken

pub none_still : (k core : Table) (i : Images) (c : Configuration) (rs : List ℕ) → ((q : ℕ) → Contains rs q → standing_of c q ≡ at.Ended) →
    still_in k core i c rs ≡ 0
none_still k core i c [] over = refl
none_still k core i c (q ∷ rs) over =
    let own_one : standing_of c q ≡ at.Ended = over q (head_in q rs) in
    let rest = none_still k core i c rs (λ p h. over p (tail_in q p rs h)) in rw (own_one, rest) refl

-- where a monitor stands when a termination is next
monitor_counts : (k core : Table) (i : Images) (s : ℕ) (t : Transition) (rest : List Transition) → is_join t.kind ≡ true → (x y : Standing) →
    Watches k core i s x y → x ≡ at.Within s (t ∷ rest) → y ≡ at.Trying (i.watching_of s) (monitor_last k core i s)
monitor_counts k core i s t rest join _ _ (watch_guards some among) e = absurd cc
monitor_counts k core i s t rest join _ _ (looks_strong yet seen parted some among) e = absurd cc
monitor_counts k core i s t rest join _ _ (waits [] ends among only) e =
    ap (λ zs. at.Trying (i.watching_of s) (zs ++ monitor_last k core i s)) (none_raised (i.flags_of s).weak)
  where
    none_raised : (flag : Option ℕ) → raise_each (λ z. z.immediate) flag [] ≡ []
    none_raised None = refl
    none_raised (Some x) = refl
monitor_counts k core i s t rest join _ _ (waits (z ∷ some) ends among only) e =
    let same : z.1 ≡ t = cc in
    let weak : is_weak z.1.kind ≡ true = kept_is (λ u. is_weak u.kind) (own k s) z.0 z.1 among.0 in
    let wrong : true ≡ false = sym join ∙ (ap (λ u. is_join u.kind) (sym same) ∙ weak_no_join z.1.kind weak) in absurd cc
monitor_counts k core i s t rest join _ _ (looks yet seen parted z some ends among only) e =
    let same : z.1 ≡ t = cc in
    let weak : is_weak z.1.kind ≡ true = kept_is (λ u. is_weak u.kind) (own k s) z.0 z.1 among.0 in
    let wrong : true ≡ false = sym join ∙ (ap (λ u. is_join u.kind) (sym same) ∙ weak_no_join z.1.kind weak) in absurd cc
monitor_counts k core i s t rest join x _ (elsewhere z a b) e = absurd (b (t ∷ rest) e)

module _ (k core : Table) (i : Images) (rows : CoreRows k core i) (tree : IsNested k) (core_tree : IsNested core) (counts : ℕ → Bool) (written_at : ℕ → ℕ)
    (counters : CounterRows k core i rows counts written_at) (written_low : (x : ℕ) → written_at x < 3)
    (children : (s r : ℕ) → Contains (state_at k s).regions r → around k r ≡ s ∷ around k (holder k s)) (Told : Configuration → Entry → Type 0)
    (told : (e : Configuration) (g : ℕ) (at_stage : Option (ℕ × ℕ)) (a : Access) → Told e (Silent g at_stage a))
    (c d : Configuration) (related : Related k core i c d) (r s : ℕ) (held : holder k s ≡ r) (t : Transition) (rest : List Transition)
    (stands : standing_of c r ≡ at.Within s (t ∷ rest)) (join : is_join t.kind ≡ true) (works : has_work k c (standing_of c r) ≡ true)
    (free : is_guarded k c (around k r) ≡ false) (no_trigger : t.trigger ≡ None) (s_there : IsState k s) (super : IsSuper k s)
    (splits : stays (flags_around k core i r) (own k s) ≡ false) (j : ℕ) (leads : state_in core (i.thread_of r) j ≡ i.behind_of s)
    (forked : standing_of d (i.thread_of r) ≡ at.Within (i.main_of s) (joins j ∷ []))
    (counted : has_aborts (own k s) ≡ true → (x : ℕ) × ((i.flags_of s).counter ≡ Some x))
    (alone : (v : ℕ) → (state_at core v).regions ≡ [] → inside core v ≡ []) where
  abbrev corr : Correspondence
  corr = pair k core i rows tree counts written_at

  -- ---- the monitor

  -- it has ended; all others stand as before
  pub record MonitorOver (w : Configuration) : Type 0 where
    pub variables : w.variables ≡ d.variables
    pub size : length w.regions ≡ length d.regions
    pub over : has_aborts (own k s) ≡ true → standing_of w (i.watcher_of s) ≡ at.Ended
    pub others : (g : ℕ) → (has_aborts (own k s) ≡ true → g ≢ i.watcher_of s) → standing_of w g ≡ standing_of d g

  inside_s : IsInside k core i s (standing_of c (holder k s))
  inside_s = subst (λ q. IsInside k core i s (standing_of c q)) (sym held) (subst (IsInside k core i s) (sym stands) (open_inside (t ∷ rest)))

  at_home : (h n : ℕ) → Stage k i.thread_of c d h n → AtHome (Stage k i.thread_of c d) (i.thread_of r) 3 h n
  at_home = taken.at_home k core i rows tree counts written_at counters children c d related r s held t rest stands join works free no_trigger
      (put 0 0) []

  module _ (has : has_aborts (own k s) ≡ true) where
    image : WatcherImage k core i s
    image = rows.watcher s s_there has

    counter : (i.flags_of s).counter ≡ Some (counted has).0
    counter = (counted has).1

    watching : standing_of d (i.watcher_of s) ≡ at.Trying (i.watching_of s) (go true (Some (is_number (counted has).0 0)) [] 1 ∷
        weak_checks true 1 (flags_around k core i (holder k s)))
    watching =
        monitor_counts k core i s t rest join (standing_of c (holder k s)) (standing_of d (i.watcher_of s)) (related.watchers s s_there has)
        (ap (standing_of c) held ∙ stands)
        ∙ ap (λ f. at.Trying (i.watching_of s) (all_ended f ++ weak_checks true 1 (flags_around k core i (holder k s)))) counter

    is_zero : slice_get d.variables (counted has).0 ≡ Some (value_is.Int (pos 0))
    is_zero =
        subst (λ f. Stores k core i d.variables f (not_ended k core i c s)) counter (related.flags s s_there inside_s).counter
        ∙ ap (λ n. Some (value_is.Int (pos n))) (none_still k core i c (state_at k s).regions
        (next.child_ended k core i rows tree counts written_at counters children c d related r s held t rest stands join works))

    owner : rows.of_flag (counted has).0 ≡ s
    owner = counters.counter_of s (counted has).0 counter

    silent : IsSilent corr (i.watcher_of s) (Some (i.thread_of r, 3)) (tests (counted has).0)
    silent =
        silent_test corr (i.watcher_of s) (Some (i.thread_of r, 3)) (counted has).0 (rows.counter_added s (counted has).0 counter)
        (inr (inl (counters.counter_counts s (counted has).0 counter, ap i.watcher_of (sym owner)), (3, stage_is, written_low (counted has).0)))
      where
        stage_is : ◌≡◌ {A = Option (ℕ × ℕ)} (Some (i.thread_of r, 3)) (Some (corr.home (counted has).0, 3))
        stage_is = ap (λ (h : ℕ). Some (h, 3)) (sym (ap (λ v. holder core (i.main_of v)) owner ∙ (rows.held s ∙ ap i.thread_of held)))

    in_core : i.watcher_of s < length d.regions
    in_core = let lt = image.there.1 in omega (lt, related.core_regions, arith)

    monitor_step : Segment (machine core) corr Told d (AtHome (Stage k i.thread_of c d) (i.thread_of r) 3)
        (λ last. AtHome (Stage k i.thread_of c d) (i.thread_of r) 3) [] MonitorOver
    monitor_step =
        silent_step (machine core) corr Told told d (record { variables = d.variables; regions = slice_set d.regions (i.watcher_of s) at.Ended })
        (i.watcher_of s) (Some (i.thread_of r, 3)) (tests (counted has).0) (AtHome (Stage k i.thread_of c d) (i.thread_of r) 3)
        (AtHome (Stage k i.thread_of c d) (i.thread_of r) 3) MonitorOver
        (leaves core d (i.watcher_of s) (i.watching_of s) (go true (Some (is_number (counted has).0 0)) [] 1)
        (weak_checks true 1 (flags_around k core i (holder k s)))
        (unguarded core d (no_guards k core i rows c d related) (around core (i.watcher_of s))) watching
        (same_verdict (counted has).0 0 d.variables is_zero) refl
        (alone (i.watching_of s) (ap (λ z. z.regions) image.row))
        (ap (λ n. (state_at core n).entered) image.ended ∙ image.watched))
        (ap access_of watching ∙ number_access (counted has).0 0) silent
        (λ more climbs. climbs_at corr (Stage k i.thread_of c d) (i.thread_of r) 3 3 (i.watcher_of s) (tests (counted has).0) more (omega arith) climbs)
        (record {
          variables = refl;
          size = length-set d.regions (i.watcher_of s) at.Ended;
          over = λ _. set_here d.regions (i.watcher_of s) at.Ended in_core;
          others = λ g ne. set_other d.regions (i.watcher_of s) g at.Ended (ne has);
        })

  from_home : (Reaches : Configuration → Type 0) → Segment (machine core) corr Told d (AtHome (Stage k i.thread_of c d) (i.thread_of r) 3)
      (λ last. AtHome (Stage k i.thread_of c d) (i.thread_of r) 3) [] Reaches →
      Segment (machine core) corr Told d (Stage k i.thread_of c d) (λ last. AtHome (Stage k i.thread_of c d) (i.thread_of r) 3) [] Reaches
  from_home Reaches g =
      record {
        log = g.log;
        last = g.last;
        follows = g.follows;
        charted = g.charted;
        fits = g.fits;
        climbs = λ more climbs.
            climbs_fewer corr (AtHome (Stage k i.thread_of c d) (i.thread_of r) 3) (Stage k i.thread_of c d) (g.log ++ more) at_home (g.climbs more climbs);
        reaches = g.reaches;
      }

  pub monitor_ends : Segment (machine core) corr Told d (Stage k i.thread_of c d) (λ last. AtHome (Stage k i.thread_of c d) (i.thread_of r) 3) [] MonitorOver
  monitor_ends = from_home MonitorOver (by_aborts (has_aborts (own k s)) refl)
    where
      by_aborts : (b : Bool) → has_aborts (own k s) ≡ b →
          Segment (machine core) corr Told d (AtHome (Stage k i.thread_of c d) (i.thread_of r) 3)
          (λ last. AtHome (Stage k i.thread_of c d) (i.thread_of r) 3) [] MonitorOver
      by_aborts true has = monitor_step has
      by_aborts false none =
          no_step (machine core) corr Told told d (AtHome (Stage k i.thread_of c d) (i.thread_of r) 3) MonitorOver
          (record {
            variables = refl;
            size = refl;
            over = λ has. let wrong : true ≡ false = sym has ∙ none in absurd cc;
            others = λ g ne. refl;
          })

  -- ---- the join

  over0 : MonitorOver monitor_ends.last
  over0 = monitor_ends.reaches

  split : SplitImage k core i s
  split = rows.split s s_there super (subst (λ q. stays (flags_around k core i q) (own k s) ≡ false) (sym held) splits)

  main_held : holder core (i.main_of s) ≡ i.thread_of r
  main_held = rows.held s ∙ ap i.thread_of held

  -- threads and holders of superstates are no monitor of s
  thread_not : (q : ℕ) → has_aborts (own k s) ≡ true → i.thread_of q ≢ i.watcher_of s
  thread_not q has = (rows.watcher s s_there has).no_thread q

  watcher_in : has_aborts (own k s) ≡ true → Contains (around core (i.watcher_of s)) (i.main_of s)
  watcher_in has =
      subst (λ zs. Contains zs (i.main_of s)) (sym (rows.watcher s s_there has).encloses) (head_in (i.main_of s) (around core (i.thread_of (holder k s))))

  home0 : standing_of monitor_ends.last (i.thread_of r) ≡ at.Within (i.main_of s) (joins j ∷ [])
  home0 = over0.others (i.thread_of r) (thread_not r) ∙ forked

  inside_over0 : (g : ℕ) → Contains (around core g) (i.main_of s) → next.IsOver (standing_of monitor_ends.last g)
  inside_over0 g h = ⊎_elim it_is (λ ne. other ne) (same_or_not g (i.watcher_of s))
    where
      ended_or : (b : Bool) → has_aborts (own k s) ≡ b → g ≡ i.watcher_of s → next.IsOver (standing_of monitor_ends.last g)
      ended_or true has e = inl (ap (standing_of monitor_ends.last) e ∙ over0.over has)
      ended_or false none e =
          subst next.IsOver (sym (over0.others g (λ has. let wrong : true ≡ false = sym has ∙ none in absurd cc)))
          (⊎_elim (λ it. it) (λ monitor. let wrong : true ≡ false = sym monitor.1 ∙ none in absurd cc)
          (next.core_over k core i rows tree counts written_at counters children c d related r s held t rest stands join works g h))

      it_is : g ≡ i.watcher_of s → next.IsOver (standing_of monitor_ends.last g)
      it_is = ended_or (has_aborts (own k s)) refl

      other : g ≢ i.watcher_of s → next.IsOver (standing_of monitor_ends.last g)
      other ne =
          subst next.IsOver (sym (over0.others g (λ has. ne)))
          (⊎_elim (λ it. it) (λ monitor. absurd (ne monitor.0))
          (next.core_over k core i rows tree counts written_at counters children c d related r s held t rest stands join works g h))

  regions_are : (state_at core (i.main_of s)).regions ≡ map i.thread_of (state_at k s).regions ++ watchers k core i s
  regions_are = ap (λ z. z.regions) split.row

  child_over0 : (g : ℕ) → Contains (state_at core (i.main_of s)).regions g → has_ended (standing_of monitor_ends.last g) ≡ true
  child_over0 g h =
      by_sort (in_either (map i.thread_of (state_at k s).regions) (watchers k core i s) g (subst (λ zs. Contains zs g) regions_are h))
    where
      by_watcher : (b : Bool) → has_aborts (own k s) ≡ b → Contains (if b then i.watcher_of s ∷ [] else []) g →
          has_ended (standing_of monitor_ends.last g) ≡ true
      by_watcher false none in_none = absurd (none_in g in_none)
      by_watcher true has in_one =
          ⊎_elim (λ same. ap (λ v. has_ended (standing_of monitor_ends.last v)) (sym same) ∙ ap has_ended (over0.over has))
          (λ none. absurd (none_in g none)) (head_or_tail (i.watcher_of s) g [] in_one)

      by_sort : Contains (map i.thread_of (state_at k s).regions) g ⊎ Contains (watchers k core i s) g → has_ended (standing_of monitor_ends.last g) ≡ true
      by_sort (inl m) =
          let q = contains_map i.thread_of (state_at k s).regions g m in
          ap (λ v. has_ended (standing_of monitor_ends.last v)) (sym q.2)
          ∙ (ap has_ended (over0.others (i.thread_of q.0) (thread_not q.0))
          ∙ ap has_ended (next.child_thread_ended k core i rows tree counts written_at counters children c d related r s held t rest stands join works q.0 q.1))
      by_sort (inr m) = by_watcher (has_aborts (own k s)) refl m

  idle0 : (g : ℕ) → Contains (inside core (i.main_of s)) g → not (has_work core monitor_ends.last (standing_of monitor_ends.last g)) ≡ true
  idle0 g h = by_over (inside_over0 g (inside_around core (i.main_of s) g h))
    where
      by_over : next.IsOver (standing_of monitor_ends.last g) → not (has_work core monitor_ends.last (standing_of monitor_ends.last g)) ≡ true
      by_over (inl e) = ap (λ w. not (has_work core monitor_ends.last w)) e
      by_over (inr e) = ap (λ w. not (has_work core monitor_ends.last w)) e

  quiet0 : (g : ℕ) → has_to_guard (standing_of monitor_ends.last g) ≡ false
  quiet0 g = ⊎_elim it_is (λ ne. ap has_to_guard (over0.others g (λ has. ne)) ∙ no_guards k core i rows c d related g) (same_or_not g (i.watcher_of s))
    where
      by_aborts : (b : Bool) → has_aborts (own k s) ≡ b → g ≡ i.watcher_of s → has_to_guard (standing_of monitor_ends.last g) ≡ false
      by_aborts true has e = ap (λ v. has_to_guard (standing_of monitor_ends.last v)) e ∙ ap has_to_guard (over0.over has)
      by_aborts false none e =
          ap has_to_guard (over0.others g (λ has. let wrong : true ≡ false = sym has ∙ none in absurd cc)) ∙ no_guards k core i rows c d related g

      it_is : g ≡ i.watcher_of s → has_to_guard (standing_of monitor_ends.last g) ≡ false
      it_is = by_aborts (has_aborts (own k s)) refl

  enters : (state_at core (state_in core (i.thread_of r) j)).entered ≡ to (i.thread_of r)
      (at.Trying (i.behind_of s) (at_once (behind_transitions k core i r s))) ∷ []
  enters =
      ap (λ n. (state_at core n).entered) leads
      ∙ (ap (λ z. z.entered) split.behind
      ∙ ap (λ p. to (i.thread_of p) (at.Trying (i.behind_of s) (at_once (behind_transitions k core i p s))) ∷ []) held)

  abbrev pub d4 : Configuration
  d4 = record {
    variables = monitor_ends.last.variables;
    regions = slice_set (moved (drops (inside core (i.main_of s))) monitor_ends.last.regions) (i.thread_of r)
        (at.Trying (i.behind_of s) (at_once (behind_transitions k core i r s)));
  }

  pub joins_it : step core (i.thread_of r) monitor_ends.last ≡ Some d4
  joins_it =
      joined core monitor_ends.last (i.thread_of r) (i.main_of s) j (at.Trying (i.behind_of s) (at_once (behind_transitions k core i r s)))
      (unguarded core monitor_ends.last quiet0 (around core (i.thread_of r))) home0
      (each_all (λ g. has_ended (standing_of monitor_ends.last g)) (state_at core (i.main_of s)).regions child_over0)
      (each_all (λ g. not (has_work core monitor_ends.last (standing_of monitor_ends.last g))) (inside core (i.main_of s)) idle0) enters

  -- ---- what is reached: nobody is inside, all others stand as before

  pub record Joined (w : Configuration) : Type 0 where
    pub variables : w.variables ≡ d.variables
    pub size : length w.regions ≡ length d.regions
    pub here : standing_of w (i.thread_of r) ≡ at.Trying (i.behind_of s) (at_once (behind_transitions k core i r s))
    pub inside : (g : ℕ) → Contains (around core g) (i.main_of s) → standing_of w g ≡ at.Outside
    pub outside : (g : ℕ) → g ≢ i.thread_of r → ¬ Contains (around core g) (i.main_of s) → standing_of w g ≡ standing_of d g
    pub quiet : (g : ℕ) → has_to_guard (standing_of w g) ≡ false

  pub is_joined : Joined d4
  is_joined =
      record {
        variables = over0.variables;
        size = length-set dropped (i.thread_of r) x4 ∙ (drops_length (inside core (i.main_of s)) monitor_ends.last.regions ∙ over0.size);
        here = here4;
        inside = λ g h. set_other dropped (i.thread_of r) g x4 (not_home g h) ∙
            drops_in (inside core (i.main_of s)) monitor_ends.last.regions g (inside_in core (i.main_of s) g (around_there core g (i.main_of s) h) h);
        outside = outside4;
        quiet = λ g.
            ⊎_elim (λ e. ap (λ v. has_to_guard (standing_of d4 v)) e ∙ ap has_to_guard here4)
            (λ ne. ap has_to_guard (set_other dropped (i.thread_of r) g x4 ne) ∙ quiet_dropped g) (same_or_not g (i.thread_of r));
      }
    where
      dropped : List Standing
      dropped = moved (drops (inside core (i.main_of s))) monitor_ends.last.regions

      x4 : Standing
      x4 = at.Trying (i.behind_of s) (at_once (behind_transitions k core i r s))

      not_home : (g : ℕ) → Contains (around core g) (i.main_of s) → g ≢ i.thread_of r
      not_home g h is = holds_other core core_tree (i.thread_of r) (i.main_of s) (subst (λ p. Contains (around core p) (i.main_of s)) is h) main_held

      there : IsThere k r
      there = taken.there k core i rows tree counts written_at counters children c d related r s held t rest stands join works free no_trigger (put 0 0) []

      here4 : standing_of d4 (i.thread_of r) ≡ at.Trying (i.behind_of s) (at_once (behind_transitions k core i r s))
      here4 =
          set_here dropped (i.thread_of r) x4
          (let lt = (rows.region r there).there.1 in
          let a = drops_length (inside core (i.main_of s)) monitor_ends.last.regions in
          let b = over0.size in omega (lt, a, b, related.core_regions, arith))

      outside4 : (g : ℕ) → g ≢ i.thread_of r → ¬ Contains (around core g) (i.main_of s) → standing_of d4 g ≡ standing_of d g
      outside4 g ne out_g =
          set_other dropped (i.thread_of r) g x4 ne
          ∙ (drops_out (inside core (i.main_of s)) monitor_ends.last.regions g (λ h. out_g (inside_around core (i.main_of s) g h))
          ∙ over0.others g (λ has is. out_g (subst (λ p. Contains (around core p) (i.main_of s)) (sym is) (watcher_in has))))

      quiet_dropped : (g : ℕ) → has_to_guard (at_number dropped g) ≡ false
      quiet_dropped g =
          ⊎_elim (λ h. ap has_to_guard (drops_in (inside core (i.main_of s)) monitor_ends.last.regions g h))
          (λ out_g. ap has_to_guard (drops_out (inside core (i.main_of s)) monitor_ends.last.regions g out_g) ∙ quiet0 g)
          (contained (inside core (i.main_of s)) g)
