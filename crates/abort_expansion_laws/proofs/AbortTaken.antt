-- An abort is taken: its monitor makes the test, raises the flag and ends, everything inside leaves, the fork is joined, and the tests of the
-- continuation before the one that answers the flag fail.
use Rattle.std.proofs.Common.{◌≡◌, ◌≢◌, ℕ, suc, ◌<◌, ◌≤◌, ◌⊎◌, inl, inr, ⊎_elim, Bool, true, false, not, ◌||◌, pos, Option, Some, None, List, [], ◌∷◌}
use Rattle.std.proofs.Common.{◌++◌, map, length, slice_get, slice_set, Contains, refl, sym, ap, subst, ◌∙◌, arith}
use Rattle.std.specs.List.{list_all}
use Rattle.std.specs.Prelude.{reverse}
use Rattle.std.proofs.lemmas.List.{append_assoc, length-set}
use Rattle.sc_values.specs.declared.value.Value.{Value}
use Rattle.sc_values.specs.declared.value.Value.TheVariants as value_is
use Rattle.sc_values.specs.Access.{Access, no_access}
use Rattle.sc_values.specs.Runs.{act_of}
use Rattle.core_charts.specs.declared.region.Transition.{Transition}
use Rattle.core_charts.specs.Tests.{at_once}
use Rattle.core_charts.specs.Aborts.{has_aborts}
use Rattle.chart_machine.specs.declared.standing.Standing.TheVariants as at
use Rattle.chart_machine.specs.declared.standing.Configuration.{Configuration}
use Rattle.chart_machine.specs.declared.table.Table.{Table}
use Rattle.chart_machine.specs.Table.{state_at}
use Rattle.chart_machine.specs.Turns.{standing_of, has_ended, has_work, guards, inside}
use Rattle.chart_machine.specs.Steps.{to, moved, access_of, access_of_trigger, state_in}
use Rattle.chart_machine.specs.Machine.{machine}
use Rattle.abort_expansion.specs.Flags.{aborts_around}
use Rattle.abort_expansion.specs.Transitions.{is_number, led_by, answers}
use Rattle.tick_laws.proofs.Lists.{same_or_not, contained, contains_map}
use Rattle.chart_lowering_laws.proofs.Finished.{each_all}
use Rattle.abort_expansion_laws.specs.Stages.{Entry, Watched, Silent, Correspondence, IsSilent}
use Rattle.abort_expansion_laws.proofs.Supplying.{silent_idle, tests}
use Rattle.abort_expansion_laws.proofs.Segments.{Segment, segment_on}
use Rattle.abort_expansion_laws.proofs.SilentSteps.{AtHome, climbs_home, silent_step}
use Rattle.chart_machine_laws.proofs.LyingIn.{IsNested, LiesUnder, around, holder, none_in, head_or_tail, head_in, tail_in, around_around}
use Rattle.abort_expansion_laws.specs.CoreRows.{own, joins, Images, CoreRows, WatcherImage, SplitImage, flags_around, watchers, behind_transitions}
use Rattle.abort_expansion_laws.specs.Related.{is_behind, IsInside, Related}
use Rattle.abort_expansion_laws.proofs.Unchanged.{no_guards, unguarded}
use Rattle.abort_expansion_laws.proofs.StageReached.{Stage, holds_other, inside_in}
use Rattle.abort_expansion_laws.proofs.ImageSteps.{pair}
use Rattle.abort_expansion_laws.proofs.KnownVariables.{in_either, present_there}
use Rattle.abort_expansion_laws.proofs.InsideLeaves.{AloneRows, there_too}
use Rattle.abort_expansion_laws.proofs.InsideAround.{inside_around}
use Rattle.abort_expansion_laws.proofs.OneLeaves.{Left}
use Rattle.abort_expansion_laws.proofs.MayLeave.{is_forked, AreOuterOne}
use Rattle.abort_expansion_laws.proofs.Leaving.{drops, set_here, set_other, drops_in, drops_out, drops_length, joined}
use Rattle.abort_expansion_laws.proofs.AbortNext.{AbortNext}
use Rattle.abort_expansion_laws.proofs.YetToLook.{in_reverse}
use Rattle.abort_expansion_laws.proofs.FailedChecks.{IsDown, AllDown, checks_fail}
use Rattle.abort_expansion_laws.proofs.Answering.{fails_on, Passed, tests_fail, Answered, answered}
use Rattle.chart_machine_laws.proofs.ChartTables.{around_there}
use Rattle.abort_expansion_laws.proofs.AbortRaised as raised
use Rattle.abort_expansion_laws.proofs.ThreadsAround.{thread_within}

module _ (k core : Table) (i : Images) (rows : CoreRows k core i) (more : AloneRows k core i) (tree : IsNested k) (core_tree : IsNested core)
    (deep : (q s : ℕ) → Contains (around core q) s → holder core s < q)
    (core_children : (s r : ℕ) → Contains (state_at core s).regions r → around core r ≡ s ∷ around core (holder core s))
    (children : (s r : ℕ) → Contains (state_at k s).regions r → around k r ≡ s ∷ around k (holder k s))
    (counts : ℕ → Bool) (written_at : ℕ → ℕ) (Told : Configuration → Entry → Type 0)
    (told : (e : Configuration) (t : ℕ) (at_stage : Option (ℕ × ℕ)) (a : Access) → Told e (Silent t at_stage a))
    (c d : Configuration) (related : Related k core i c d) (r o stage x : ℕ) (t : Transition)
    (next : AbortNext k core i rows tree counts written_at c d r o stage x t) (Others : ℕ → ℕ → Type 0) where
  abbrev pub corr : Correspondence
  corr = pair k core i rows tree counts written_at

  image : WatcherImage k core i o
  image = rows.watcher o next.o_there next.has

  abbrev pub raised_to : Value
  raised_to = value_is.Int (pos (suc next.number))

  abbrev d2 : Configuration
  d2 = raised.d2 k core i rows tree core_tree deep counts written_at Told told c d related r o stage x t next Others

  abbrev here2 : standing_of d2 (i.watcher_of o) ≡ at.Ended
  here2 = raised.here2 k core i rows tree core_tree deep counts written_at Told told c d related r o stage x t next Others

  abbrev other2 : (q : ℕ) → q ≢ i.watcher_of o → standing_of d2 q ≡ standing_of d q
  other2 = raised.other2 k core i rows tree core_tree deep counts written_at Told told c d related r o stage x t next Others

  quiet : (q : ℕ) → guards (standing_of d q) ≡ false
  quiet = no_guards k core i rows c d related

  abbrev quiet2 : (q : ℕ) → guards (standing_of d2 q) ≡ false
  quiet2 = raised.quiet2 k core i rows tree core_tree deep counts written_at Told told c d related r o stage x t next Others

  abbrev pub sees_own : IsSilent corr (i.thread_of r) None (tests x)
  sees_own = raised.sees_own k core i rows tree core_tree deep counts written_at Told told c d related r o stage x t next Others

  abbrev flag_is : slice_get d2.variables x ≡ Some raised_to
  flag_is = raised.flag_is k core i rows tree core_tree deep counts written_at Told told c d related r o stage x t next Others

  abbrev other_value : (y : ℕ) → y ≢ x → slice_get d2.variables y ≡ slice_get d.variables y
  other_value = raised.other_value k core i rows tree core_tree deep counts written_at Told told c d related r o stage x t next Others

  -- ---- the three parts
  module _ (told_test : Told d (Watched r (i.watcher_of o) stage (access_of_trigger t.trigger)))
      (outer_stage : (b : ℕ) → LiesUnder k r b → (i.thread_of b ≢ i.thread_of r) ×
      (((u : ℕ) → Stage k i.thread_of c d (i.thread_of b) u → u ≤ 1) × Others (i.thread_of b) 1))
      (others_stay : (h s : ℕ) → h ≢ i.thread_of r → (Contains (around core h) (i.main_of o) → is_forked (standing_of d h) ≡ true → ⊥) →
      Stage k i.thread_of c d h s → Others h s)
      (forks_low : (h s : ℕ) → Contains (around core h) (i.main_of o) → is_forked (standing_of d h) ≡ true → Stage k i.thread_of c d h s → s ≤ 3)
      (outer_one : AreOuterOne core Others (i.thread_of r)) where
    abbrev AllLeft : Configuration → Type 0
    AllLeft = raised.AllLeft k core i rows tree core_tree deep counts written_at Told told c d related r o stage x t next Others told_test outer_stage
        others_stay forks_low outer_one

    abbrev aborted : Segment (machine core) corr Told d (Stage k i.thread_of c d) (λ last. AtHome Others (i.thread_of r) (suc stage))
        (act_of (machine k) c r ∷ []) AllLeft
    aborted = raised.aborted k core i rows tree core_tree deep counts written_at Told told c d related r o stage x t next Others told_test outer_stage
        others_stay forks_low outer_one

    abbrev size2 : length d2.regions ≡ length d.regions
    size2 = raised.size2 k core i rows tree core_tree deep counts written_at Told told c d related r o stage x t next Others told_test outer_stage
        others_stay forks_low outer_one

    -- ---- the fork is over, and joined
    left3 : Left core core_tree deep corr Told told Others (i.thread_of r) (suc stage) (i.main_of o) d2 quiet2 0 aborted.last
    left3 = aborted.reaches

    main_held : holder core (i.main_of o) ≡ i.thread_of r
    main_held = rows.held o ∙ ap i.thread_of next.held

    home_out : ¬ Contains (around core (i.thread_of r)) (i.main_of o)
    home_out h = holds_other core core_tree (i.thread_of r) (i.main_of o) h main_held

    home3 : standing_of aborted.last (i.thread_of r) ≡ at.Within (i.main_of o) (joins next.join ∷ [])
    home3 = left3.others (i.thread_of r) home_out ∙ (other2 (i.thread_of r) (image.no_thread r) ∙ next.forked)

    stays_not : (a : Bool) (b : Bool) → a ≡ true → not (a || b) ≡ false
    stays_not true b e = refl
    stays_not false b e = absurd cc

    split : SplitImage k core i o
    split = rows.split o next.o_there next.super (stays_not (has_aborts (own k o)) (aborts_around (flags_around k core i (holder k o))) next.has)

    monitors_one : watchers k core i o ≡ i.watcher_of o ∷ []
    monitors_one = rw (next.has) refl

    regions_are : (state_at core (i.main_of o)).regions ≡ map i.thread_of (state_at k o).regions ++ i.watcher_of o ∷ []
    regions_are = ap (λ z. z.regions) split.row ∙ ap (λ zs. map i.thread_of (state_at k o).regions ++ zs) monitors_one

    not_behind : is_behind k core i c o ≡ false
    not_behind = rw (next.has) refl

    inside_o : IsInside k core i o (standing_of c (holder k o))
    inside_o = subst (λ q. IsInside k core i o (standing_of c q)) (sym next.held) next.was_inside

    direct_in : (q : ℕ) → Contains (state_at core (i.main_of o)).regions q → around core q ≡ i.main_of o ∷ around core (i.thread_of r)
    direct_in q h = core_children (i.main_of o) q h ∙ ap (λ z. i.main_of o ∷ around core z) main_held

    -- nothing that the fork directly holds was dropped by another one inside of it
    not_by_inner : (q s : ℕ) → Contains (state_at core (i.main_of o)).regions q → Contains (around core q) s →
        Contains (around core (holder core s)) (i.main_of o) → ⊥
    not_by_inner q s h around_q inner =
        ⊎_elim (λ same. home_out (subst (λ z. Contains (around core z) (i.main_of o)) (ap (holder core) (sym same) ∙ main_held) inner))
        (λ tail. home_out (around_around core core_tree (around core (i.thread_of r)) (i.thread_of r) s (i.main_of o) refl tail inner))
        (head_or_tail (i.main_of o) s (around core (i.thread_of r)) (subst (λ zs. Contains zs s) (direct_in q h) around_q))

    present2 : (q : ℕ) → Contains (state_at core (i.main_of o)).regions q → standing_of d2 q ≢ at.Outside
    present2 q h e = by_sort (in_either (map i.thread_of (state_at k o).regions) (i.watcher_of o ∷ []) q (subst (λ zs. Contains zs q) regions_are h))
      where
        heads : (a b : ℕ) (xs ys : List ℕ) → a ∷ xs ≡ b ∷ ys → a ≡ b
        heads a b xs ys same = cc

        by_region : (u : ℕ) → Contains (state_at k o).regions u → i.thread_of u ≡ q → ⊥
        by_region u child is =
            let was : standing_of c u ≢ at.Outside = related.opened o u next.o_there inside_o child in
            there_too k core i c u (standing_of c u) (standing_of d (i.thread_of u)) (related.regions u (present_there k core i c d related u was)) was
            (λ v vs round. subst (λ w. is_behind k core i c w ≡ false) (heads o v (around k (holder k o)) vs (sym (children o u child) ∙ round)) not_behind)
            (sym (other2 (i.thread_of u) (image.no_thread u)) ∙ (ap (standing_of d2) is ∙ e))

        by_sort : Contains (map i.thread_of (state_at k o).regions) q ⊎ Contains (i.watcher_of o ∷ []) q → ⊥
        by_sort (inl m) = let u = contains_map i.thread_of (state_at k o).regions q m in by_region u.0 u.1 u.2
        by_sort (inr m) =
            ⊎_elim (λ same. let wrong : at.Ended ≡ at.Outside = sym here2 ∙ (ap (standing_of d2) same ∙ e) in absurd cc) (λ none. none_in q none)
            (head_or_tail (i.watcher_of o) q [] m)

    abbrev HasGone : ℕ → Type 0
    HasGone q =
        (standing_of aborted.last q ≡ at.Ended) ⊎ ((standing_of aborted.last q ≡ at.Outside) × ((standing_of d2 q ≡ at.Outside) ⊎
        ((s : ℕ) × Contains (around core q) s × (0 ≤ holder core s) × Contains (around core (holder core s)) (i.main_of o))))

    direct_ended : (q : ℕ) → Contains (state_at core (i.main_of o)).regions q → standing_of aborted.last q ≡ at.Ended
    direct_ended q h = by_gone (left3.gone q (subst (λ zs. Contains zs (i.main_of o)) (sym (direct_in q h))
        (head_in (i.main_of o) (around core (i.thread_of r)))) (omega arith))
      where
        by_gone : HasGone q →
            standing_of aborted.last q ≡ at.Ended
        by_gone (inl is) = is
        by_gone (inr (out, inl was)) = absurd (present2 q h was)
        by_gone (inr (out, inr s)) = absurd (not_by_inner q s.0 h s.1 s.3)

    all_over : list_all (λ q. has_ended (standing_of aborted.last q)) (state_at core (i.main_of o)).regions ≡ true
    all_over = each_all (λ q. has_ended (standing_of aborted.last q)) (state_at core (i.main_of o)).regions (λ q h. ap has_ended (direct_ended q h))

    all_idle : list_all (λ q. not (has_work core aborted.last (standing_of aborted.last q))) (inside core (i.main_of o)) ≡ true
    all_idle = each_all (λ q. not (has_work core aborted.last (standing_of aborted.last q))) (inside core (i.main_of o)) idle
      where
        idle : (q : ℕ) → Contains (inside core (i.main_of o)) q → not (has_work core aborted.last (standing_of aborted.last q)) ≡ true
        idle q h = by_gone (left3.gone q (inside_around core (i.main_of o) q h) (omega arith))
          where
            by_gone : HasGone q →
                not (has_work core aborted.last (standing_of aborted.last q)) ≡ true
            by_gone (inl is) = ap (λ z. not (has_work core aborted.last z)) is
            by_gone (inr w) = ap (λ z. not (has_work core aborted.last z)) w.0

    quiet3 : (q : ℕ) → guards (standing_of aborted.last q) ≡ false
    quiet3 q =
        ⊎_elim (λ inner. by_gone (left3.gone q inner (omega arith))) (λ outer. ap guards (left3.others q outer) ∙ quiet2 q)
        (contained (around core q) (i.main_of o))
      where
        by_gone : HasGone q →
            guards (standing_of aborted.last q) ≡ false
        by_gone (inl is) = ap guards is
        by_gone (inr w) = ap guards w.0

    abbrev pub all_tests : List Transition
    all_tests = at_once (behind_transitions k core i r o)

    enters : (state_at core (state_in core (i.thread_of r) next.join)).entered ≡ to (i.thread_of r) (at.Trying (i.behind_of o) all_tests) ∷ []
    enters =
        ap (λ n. (state_at core n).entered) next.leads
        ∙ (ap (λ z. z.entered) split.behind
        ∙ ap (λ p. to (i.thread_of p) (at.Trying (i.behind_of o) (at_once (behind_transitions k core i p o))) ∷ []) next.held)

    abbrev pub d4 : Configuration
    d4 = record {
      variables = aborted.last.variables;
      regions = slice_set (moved (drops (inside core (i.main_of o))) aborted.last.regions) (i.thread_of r) (at.Trying (i.behind_of o) all_tests);
    }

    join_step : Segment (machine core) corr Told aborted.last (AtHome Others (i.thread_of r) (suc stage)) (λ last. AtHome Others (i.thread_of r) 0) []
        (λ z. z ≡ d4)
    join_step =
        silent_step (machine core) corr Told told aborted.last d4 (i.thread_of r) None no_access (AtHome Others (i.thread_of r) (suc stage))
        (AtHome Others (i.thread_of r) 0) (λ z. z ≡ d4)
        (joined core aborted.last (i.thread_of r) (i.main_of o) next.join
        (at.Trying (i.behind_of o) all_tests) (unguarded core aborted.last quiet3 (around core (i.thread_of r))) home3 all_over all_idle enters)
        (ap access_of home3) (silent_idle corr (i.thread_of r) None)
        (λ rest climbs. climbs_home corr Others (i.thread_of r) (suc stage) no_access rest climbs) refl

    home_there : i.thread_of r < length (moved (drops (inside core (i.main_of o))) aborted.last.regions)
    home_there =
        let lt = (rows.region r next.there).there.1 in
        let a : length aborted.last.regions ≡ length d2.regions = left3.size in
        let b = drops_length (inside core (i.main_of o)) aborted.last.regions in
        let e = size2 in
        omega (lt, a, b, e, related.core_regions, arith)

    home4 : standing_of d4 (i.thread_of r) ≡ at.Trying (i.behind_of o) all_tests
    home4 = set_here (moved (drops (inside core (i.main_of o))) aborted.last.regions) (i.thread_of r) (at.Trying (i.behind_of o) all_tests) home_there

    dropped4 : (q : ℕ) → q ≢ i.thread_of r → Contains (inside core (i.main_of o)) q → standing_of d4 q ≡ at.Outside
    dropped4 q ne h = set_other (moved (drops (inside core (i.main_of o))) aborted.last.regions) (i.thread_of r) q (at.Trying (i.behind_of o) all_tests)
        ne ∙ drops_in (inside core (i.main_of o)) aborted.last.regions q h

    same4 : (q : ℕ) → q ≢ i.thread_of r → ¬ Contains (inside core (i.main_of o)) q → standing_of d4 q ≡ standing_of aborted.last q
    same4 q ne out_q =
        set_other (moved (drops (inside core (i.main_of o))) aborted.last.regions) (i.thread_of r) q (at.Trying (i.behind_of o) all_tests) ne ∙
        drops_out (inside core (i.main_of o)) aborted.last.regions q out_q

    quiet4 : (q : ℕ) → guards (standing_of d4 q) ≡ false
    quiet4 q =
        ⊎_elim (λ e. ap (λ p. guards (standing_of d4 p)) e ∙ ap guards home4)
        (λ ne. ⊎_elim (λ h. ap guards (dropped4 q ne h)) (λ out_q. ap guards (same4 q ne out_q) ∙ quiet3 q) (contained (inside core (i.main_of o)) q))
        (same_or_not q (i.thread_of r))

    home_in4 : i.thread_of r < length d4.regions
    home_in4 =
        let lt = home_there in
        let size = length-set (moved (drops (inside core (i.main_of o))) aborted.last.regions) (i.thread_of r) (at.Trying (i.behind_of o) all_tests) in
        omega (lt, size, arith)

    -- ---- the continuation looks at the strong flags around, which are down
    abbrev at_start : ℕ → ℕ → Type 0
    at_start = AtHome Others (i.thread_of r) 0

    abbrev own_tests : List Transition
    own_tests = next.earlier ++ at_once (answers (i.places_of r) (Some x) 1 next.aborts ++ next.behind_them)

    values4 : d4.variables ≡ slice_set d.variables x raised_to
    values4 = left3.variables

    strong_down : (s y : ℕ) → Contains (around k r) s → (i.flags_of s).strong ≡ Some y →
        IsDown core corr Told told (i.thread_of r) (i.behind_of o) (i.places_of r).left at_start d4 y
    strong_down s y around_it flag =
        let down = next.around_down s y around_it flag in
        let in_core : Contains (around core (i.thread_of r)) (i.main_of s) =
        thread_within k core i rows r s around_it in
        let home_is : holder core (i.main_of s) ≡ corr.home y = rows.held s ∙ sym down.home_is in
        let other : corr.home y ≢ i.thread_of r = λ same. holds_other core core_tree (i.thread_of r) (i.main_of s) in_core (home_is ∙ same) in
        let one = outer_one (i.main_of s) in_core in
        record {
          flag = down.added;
          low = ap (λ vs. slice_get vs y) values4 ∙ (other_value y down.differs ∙ down.low);
          reads = down.reads;
          reached = λ n before. one.0 n (subst (λ h. Others h n) (sym home_is) (before.0 other));
          reaches = ((λ ne. subst (λ h. Others h 1) home_is one.1), λ same. absurd (other same));
        }

    all_down : (zs : List ℕ) → ((s : ℕ) → Contains zs s → Contains (around k r) s) →
        AllDown core corr Told told (i.thread_of r) (i.behind_of o) (i.places_of r).left at_start d4 (map i.flags_of zs)
    all_down [] within = tt
    all_down (s ∷ zs) within = ((λ y flag. strong_down s y (within s (head_in s zs)) flag), all_down zs (λ v h. within v (tail_in s v zs h)))

    -- nothing changed but the tests that are left
    abbrev HasLooked : Configuration → Type 0
    HasLooked w = (w.variables ≡ d4.variables) × ((standing_of w (i.thread_of r) ≡ at.Trying (i.behind_of o) own_tests)
        × (((g : ℕ) → g ≢ i.thread_of r → standing_of w g ≡ standing_of d4 g) × (length w.regions ≡ length d4.regions)))

    pub look_steps : Segment (machine core) corr Told d4 at_start (λ last. at_start) [] HasLooked
    look_steps =
        checks_fail core corr Told told (i.thread_of r) (i.behind_of o) (i.places_of r).left at_start (flags_around k core i r) own_tests d4 quiet4 home_in4
        (all_down (reverse (around k r)) (λ s h. in_reverse (around k r) s h)) (home4 ∙ ap (at.Trying (i.behind_of o)) next.continues)

    quiet5 : (q : ℕ) → guards (standing_of look_steps.last q) ≡ false
    quiet5 q =
        ⊎_elim (λ e. ap (λ p. guards (standing_of look_steps.last p)) e ∙ ap guards look_steps.reaches.1.0)
        (λ ne. ap guards (look_steps.reaches.1.1.0 q ne) ∙ quiet4 q) (same_or_not q (i.thread_of r))

    values5 : look_steps.last.variables ≡ slice_set d.variables x raised_to
    values5 = look_steps.reaches.0 ∙ values4

    -- ---- its other tests, up to the one that answers
    pub answers_it : Answered corr (i.thread_of r) (i.places_of r) look_steps.last.variables x sees_own t (suc next.number)
        (at_once (answers (i.places_of r) (Some x) 1 next.aborts ++ next.behind_them))
    answers_it =
        answered corr (i.thread_of r) (i.places_of r) look_steps.last.variables x sees_own t (suc next.number) (ap (λ vs. slice_get vs x) values5 ∙ flag_is)
        next.behind_them next.aborts 1 next.number next.numbered (omega arith)

    -- the answer, and what is tested behind it
    abbrev pub answer : Transition
    answer = led_by (i.places_of r) (Some (is_number x (suc next.number))) t

    tests_are : own_tests ≡ (next.earlier ++ answers_it.before) ++ (answer ∷ answers_it.later)
    tests_are = ap (λ zs. next.earlier ++ zs) answers_it.are ∙ sym (append_assoc next.earlier answers_it.before (answer ∷ answers_it.later))

    abbrev pub IsAnswering : Configuration → Type 0
    IsAnswering z = Passed core corr Told told Others (i.thread_of r) (i.behind_of o) look_steps.last (answer ∷ answers_it.later) z

    answer_steps : Segment (machine core) corr Told look_steps.last at_start (λ last. at_start) [] IsAnswering
    answer_steps =
        tests_fail core corr Told told Others (i.thread_of r) (i.behind_of o) (next.earlier ++ answers_it.before) (answer ∷ answers_it.later) look_steps.last
        (fails_on corr (i.thread_of r) look_steps.last.variables next.earlier answers_it.before
        (next.earlier_fail look_steps.last.variables (λ y ne. ap (λ vs. slice_get vs y) values5 ∙ other_value y ne)) answers_it.fail)
        (look_steps.reaches.1.0 ∙ ap (at.Trying (i.behind_of o)) tests_are) quiet5
        (let lt = home_in4 in let size = look_steps.reaches.1.1.1 in omega (lt, size, arith))

    -- from the abort's test to the answer
    pub answering_on : Segment (machine core) corr Told d (Stage k i.thread_of c d) (λ last. AtHome Others (i.thread_of r) 0) (act_of (machine k) c r ∷ [])
        IsAnswering
    answering_on =
        segment_on (machine core) corr Told d (Stage k i.thread_of c d) (λ last. AtHome Others (i.thread_of r) (suc stage))
        (λ last. AtHome Others (i.thread_of r) 0)
        (act_of (machine k) c r ∷ []) [] AllLeft IsAnswering aborted
        (segment_on (machine core) corr Told aborted.last (AtHome Others (i.thread_of r) (suc stage)) (λ last. AtHome Others (i.thread_of r) 0)
        (λ last. AtHome Others (i.thread_of r) 0) [] [] (λ z. z ≡ d4) IsAnswering join_step
        (subst (λ z. Segment (machine core) corr Told z (AtHome Others (i.thread_of r) 0) (λ last. AtHome Others (i.thread_of r) 0) [] IsAnswering)
        (sym join_step.reaches)
        (segment_on (machine core) corr Told d4 at_start (λ last. at_start) (λ last. at_start) [] [] HasLooked IsAnswering look_steps answer_steps)))

    -- ---- what is reached
    abbrev pub z : Configuration
    z = answering_on.last

    -- nobody is left inside, all others stand as before, and the flag is raised
    pub record Emptied (w : Configuration) : Type 0 where
      pub variables : w.variables ≡ slice_set d.variables x raised_to
      pub size : length w.regions ≡ length d.regions
      pub here : (later : List Transition) × (standing_of w (i.thread_of r) ≡ at.Trying (i.behind_of o) (answer ∷ later))
      pub inside : (q : ℕ) → Contains (around core q) (i.main_of o) → standing_of w q ≡ at.Outside
      pub outside : (q : ℕ) → q ≢ i.thread_of r → ¬ Contains (around core q) (i.main_of o) → standing_of w q ≡ standing_of d q
      pub quiet : (q : ℕ) → guards (standing_of w q) ≡ false

    passed_now : Passed core corr Told told Others (i.thread_of r) (i.behind_of o) look_steps.last (answer ∷ answers_it.later) answering_on.last
    passed_now = answering_on.reaches

    pub emptied : Emptied answering_on.last
    emptied =
        record {
          variables = passed_now.variables ∙ values5;
          size =
              let a = passed_now.size in
              let look = look_steps.reaches.1.1.1 in
              let b = length-set (moved (drops (inside core (i.main_of o))) aborted.last.regions) (i.thread_of r) (at.Trying (i.behind_of o) all_tests) in
              let f = drops_length (inside core (i.main_of o)) aborted.last.regions in
              let g = left3.size in
              let h = size2 in omega (a, look, b, f, g, h, arith);
          here = (answers_it.later, passed_now.here);
          inside = λ q h.
              let ne : q ≢ i.thread_of r = λ same. home_out (subst (λ p. Contains (around core p) (i.main_of o)) same h) in
              passed_now.others q ne ∙ (look_steps.reaches.1.1.0 q ne ∙ dropped4 q ne (inside_in core (i.main_of o) q (around_there core q (i.main_of o) h) h));
          outside = λ q ne out_q.
              (passed_now.others q ne ∙ look_steps.reaches.1.1.0 q ne)
              ∙ (same4 q ne (λ h. out_q (inside_around core (i.main_of o) q h))
              ∙ (left3.others q out_q ∙ other2 q (λ same. out_q (subst (λ p. Contains (around core p) (i.main_of o)) (sym same)
              (subst (λ zs. Contains zs (i.main_of o)) (sym image.encloses) (head_in (i.main_of o) (around core (i.thread_of (holder k o)))))))));
          quiet = λ q.
              ⊎_elim (λ e. ap (λ p. guards (standing_of answering_on.last p)) e ∙ ap guards passed_now.here)
              (λ ne. ap guards (passed_now.others q ne) ∙ quiet5 q) (same_or_not q (i.thread_of r));
        }
