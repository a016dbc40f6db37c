-- The termination of a superstate that is split: behind the fork no flag is raised, and the continuation takes it.
use Rattle.std.proofs.Common.{◌≡◌, ◌≢◌, ℕ, ◌<◌, inl, inr, ⊎_elim, Bool, true, false, ◌||◌, Option, Some, None, List, [], ◌∷◌, ◌++◌}
use Rattle.std.proofs.Common.{map, length, slice_get, slice_set, Contains, refl, sym, ap, subst, ◌∙◌, arith}
use Rattle.std.specs.Prelude.{reverse}
use Rattle.std.proofs.lemmas.List.{length-set}
use Rattle.sc_values.specs.declared.value.Value.{Value}
use Rattle.sc_values.specs.Access.{Access, no_access}
use Rattle.sc_values.specs.Runs.{act_of}
use Rattle.core_charts.specs.declared.region.Effect.{Effect}
use Rattle.core_charts.specs.declared.region.Transition.{Transition}
use Rattle.core_charts.specs.Tests.{at_once, strong_aborts, weak_aborts, terminations, is_join}
use Rattle.core_charts.specs.Aborts.{has_aborts}
use Rattle.chart_machine.specs.declared.standing.Standing.{Standing}
use Rattle.chart_machine.specs.declared.standing.Standing.TheVariants as at
use Rattle.chart_machine.specs.declared.standing.Configuration.{Configuration}
use Rattle.chart_machine.specs.declared.table.Table.{Table}
use Rattle.chart_machine.specs.Table.{state_at, region_at}
use Rattle.chart_machine.specs.Turns.{standing_of, has_ended, has_work, guards as has_to_guard, is_guarded, inside}
use Rattle.chart_machine.specs.Steps.{to, state_in, moved, acts, verdict, change_of, access_of, access_of_trigger, step}
use Rattle.chart_machine.specs.Machine.{machine}
use Rattle.abort_expansion.specs.Flags.{has_join, weak_around}
use Rattle.abort_expansion.specs.Transitions.{put, counting, place_of, led_by, answers}
use Rattle.abort_expansion.specs.Superstates.{stays, closing}
use Rattle.tick_laws.proofs.Lists.{same_or_not}
use Rattle.abort_expansion_laws.specs.Stages.{Entry, Image, Silent, Correspondence}
use Rattle.abort_expansion_laws.proofs.Supplying.{climbs_fewer}
use Rattle.abort_expansion_laws.proofs.Segments.{Segment, segment_on}
use Rattle.abort_expansion_laws.proofs.SilentSteps.{AtHome, climbs_home, silent_step}
use Rattle.chart_machine_laws.proofs.LyingIn.{IsNested, around, holder, head_in, tail_in}
use Rattle.abort_expansion_laws.proofs.TablesCorrespond.{IsThere}
use Rattle.abort_expansion_laws.specs.CoreRows.{own, IsState, IsSuper, joins, Images, CoreRows, flags_around, pair}
use Rattle.abort_expansion_laws.specs.Related.{acting, IsInside, open_inside, Stores, Related}
use Rattle.abort_expansion_laws.proofs.StageReached.{Stage, holds_other}
use Rattle.abort_expansion_laws.proofs.StartingRegions.{CounterRows}
use Rattle.abort_expansion_laws.proofs.OpensFork.{OpeningRows}
use Rattle.abort_expansion_laws.proofs.FailedChecks.{IsDown, AllDown, checks_fail}
use Rattle.abort_expansion_laws.proofs.YetToLook.{in_reverse}
use Rattle.abort_expansion_laws.proofs.InsideLeaves.{AloneRows}
use Rattle.abort_expansion_laws.proofs.Answering.{AllFail, Passed, tests_fail}
use Rattle.abort_expansion_laws.proofs.CoreSteps.{takes_any}
use Rattle.abort_expansion_laws.proofs.EffectAhead.{BeginsAt}
use Rattle.abort_expansion_laws.proofs.Owed.{Enters}
use Rattle.abort_expansion_laws.proofs.Leaving.{drops, set_here, set_other}
use Rattle.abort_expansion_laws.proofs.StandsInside.{only_inside, inside_not_acting}
use Rattle.abort_expansion_laws.proofs.DropsOut.{DropsOut, dropped_out}
use Rattle.abort_expansion_laws.proofs.SuperstateLeft as left_for
use Rattle.abort_expansion_laws.proofs.TerminationImage as taken
use Rattle.abort_expansion_laws.proofs.TerminationJoins as joined
use Rattle.abort_expansion_laws.proofs.Unchanged.{unguarded}
use Rattle.abort_expansion_laws.proofs.SplitTests.{continuation_tests}
use Rattle.abort_expansion_laws.proofs.SplitTests as split
use Rattle.abort_expansion_laws.proofs.ThreadsAround.{thread_within}

module _ (k core : Table) (i : Images) (rows : CoreRows k core i) (lone : AloneRows k core i) (tree : IsNested k) (core_tree : IsNested core)
    (counts : ℕ → Bool) (written_at : ℕ → ℕ)
    (counters : CounterRows k core i rows counts written_at) (opening : OpeningRows k core i rows) (written_low : (x : ℕ) → written_at x < 3)
    (strong_at : (s x : ℕ) → (i.flags_of s).strong ≡ Some x → written_at x ≡ 0) (super_there : (q s : ℕ) → Contains (around k q) s → IsState k s)
    (children : (s r : ℕ) → Contains (state_at k s).regions r → around k r ≡ s ∷ around k (holder k s)) (Told : Configuration → Entry → Type 0)
    (told : (e : Configuration) (g : ℕ) (at_stage : Option (ℕ × ℕ)) (a : Access) → Told e (Silent g at_stage a))
    (c d : Configuration) (related : Related k core i c d) (r s : ℕ) (held : holder k s ≡ r) (t : Transition) (rest : List Transition)
    (stands : standing_of c r ≡ at.Within s (t ∷ rest)) (join : is_join t.kind ≡ true) (works : has_work k c (standing_of c r) ≡ true)
    (free : is_guarded k c (around k r) ≡ false) (no_trigger : t.trigger ≡ None) (s_there : IsState k s) (super : IsSuper k s)
    (splits : stays (flags_around k core i r) (own k s) ≡ false) (j : ℕ) (leads : state_in core (i.thread_of r) j ≡ i.behind_of s)
    (forked : standing_of d (i.thread_of r) ≡ at.Within (i.main_of s) (joins j ∷ []))
    (counter_given : (u : ℕ) → has_join (own k u) ≡ true → (has_aborts (own k u) || weak_around (flags_around k core i (holder k u))) ≡ true →
    (x : ℕ) × ((i.flags_of u).counter ≡ Some x))
    (alone : (v : ℕ) → (state_at core v).regions ≡ [] → inside core v ≡ [])
    (target_there : t.target < length (region_at k r).states)
    (told_image : (e last : Configuration) → step core (i.thread_of r) e ≡ Some last →
    ((g : ℕ) → (has_aborts (own k s) ≡ true → g ≢ i.watcher_of s) → standing_of e g ≡ standing_of d g) → Told e (Image r no_access)) where
  abbrev corr : Correspondence
  corr = pair k core i rows tree counts written_at

  abbrev counted_there : has_aborts (own k s) ≡ true → (x : ℕ) × ((i.flags_of s).counter ≡ Some x)
  counted_there = split.counted_there k core i rows tree counts written_at counters opening children c d related r s held t rest stands join works s_there
      counter_given

  abbrev none_of : (values : List Value) → values ≡ d.variables → AllFail corr (i.thread_of r) values
      (answers (i.places_of r) (i.flags_of s).strong 1 (strong_aborts (own k s)) ++ answers (i.places_of r) (i.flags_of s).weak 1 (weak_aborts (own k s)))
  none_of = split.none_of k core i rows tree counts written_at counters opening children c d related r s held t rest stands join works s_there counter_given

  abbrev Takes : Type 0
  Takes = split.Takes k core i rows tree counts written_at counters opening children c d related r s held t rest stands join works s_there counter_given

  abbrev takes : Takes
  takes = split.takes k core i rows tree counts written_at counters opening children c d related r s held t rest stands join works s_there counter_given

  -- ---- as if these were the effects
  module _ (e : Effect) (es : List Effect) where
    abbrev c1 : Configuration
    c1 = record { variables = c.variables; regions = slice_set (moved (drops (inside k s)) c.regions) r (at.Acting s (e ∷ es) t.target) }

    abbrev Now : ℕ → ℕ → Type 0
    Now = AtHome (Stage k i.thread_of c1 d) (i.thread_of r) 0

    abbrev first : Segment (machine core) corr Told d (Stage k i.thread_of c d) (λ last. AtHome (Stage k i.thread_of c d) (i.thread_of r) 3) []
        (joined.MonitorOver k core i rows tree core_tree counts written_at counters written_low children Told told c d related r s held t rest stands join works
        free no_trigger s_there super splits j leads forked counted_there alone)
    first = joined.monitor_ends k core i rows tree core_tree counts written_at counters written_low children Told told c d related r s held t rest stands join
        works free no_trigger s_there super splits j leads forked counted_there alone

    abbrev d4 : Configuration
    d4 = joined.d4 k core i rows tree core_tree counts written_at counters written_low children Told told c d related r s held t rest stands join works
        free no_trigger s_there super splits j leads forked counted_there alone

    joins_it : step core (i.thread_of r) first.last ≡ Some d4
    joins_it = joined.joins_it k core i rows tree core_tree counts written_at counters written_low children Told told c d related r s held t rest stands join
        works free no_trigger s_there super splits j leads forked counted_there alone

    at_join : joined.Joined k core i rows tree core_tree counts written_at counters written_low children Told told c d related r s held t rest stands join works
        free no_trigger s_there super splits j leads forked counted_there alone d4
    at_join = joined.is_joined k core i rows tree core_tree counts written_at counters written_low children Told told c d related r s held t rest stands join
        works free no_trigger s_there super splits j leads forked counted_there alone

    there : IsThere k r
    there = taken.there k core i rows tree counts written_at counters children c d related r s held t rest stands join works free no_trigger e es

    home_stands : standing_of first.last (i.thread_of r) ≡ at.Within (i.main_of s) (joins j ∷ [])
    home_stands = first.reaches.others (i.thread_of r) (λ has. (rows.watcher s s_there has).no_thread r) ∙ forked

    image_part : Segment (machine core) corr Told first.last (AtHome (Stage k i.thread_of c d) (i.thread_of r) 3)
        (λ last. AtHome (Stage k i.thread_of c1 d) (i.thread_of r) 0) (act_of (machine k) c r ∷ []) (λ w. w ≡ d4)
    image_part =
        taken.image_step k core i rows tree counts written_at counters children c d related r s held t rest stands join works free no_trigger e es
        Told first.last
        d4 (told_image first.last d4 joins_it first.reaches.others) joins_it (ap access_of home_stands)

    home_there : i.thread_of r < length d4.regions
    home_there = let lt = (rows.region r there).there.1 in let size = at_join.size in omega (lt, size, related.core_regions, arith)

    -- ---- strong checks
    abbrev CheckedTo : List Transition → Configuration → Type 0
    CheckedTo ts w = (w.variables ≡ d4.variables) × ((standing_of w (i.thread_of r) ≡ at.Trying (i.behind_of s) ts)
        × (((g : ℕ) → g ≢ i.thread_of r → standing_of w g ≡ standing_of d4 g) × (length w.regions ≡ length d4.regions)))

    strong_down : (u x : ℕ) → Contains (around k r) u → (i.flags_of u).strong ≡ Some x →
        IsDown core corr Told told (i.thread_of r) (i.behind_of s) (i.places_of r).left Now d4 x
    strong_down u x around_it flag =
        let owner : rows.of_flag x ≡ u = (opening.flag_of u x (inl flag)).0 in
        let home_is : corr.home x ≡ i.thread_of (holder k u) = ap (λ v. holder core (i.main_of v)) owner ∙ rows.held u in
        let out = taken.outer k core i rows tree counts written_at counters children c d related r s held t rest stands join works free no_trigger e es
        (holder k u) (inl (u, around_it, refl)) in
        record {
          flag = rows.strong_added u x flag;
          low = ap (λ vs. slice_get vs x) at_join.variables ∙
              subst (λ w. Stores k core i d.variables w 0) flag (related.flags u (super_there r u around_it)
              (related.enclosed r u there present around_it)).strong;
          reads = inr (
            inr (
              counters.strong_not u x flag,
              subst (λ v. Contains (around core (i.thread_of r)) (i.main_of v)) (sym owner)
                  (thread_within k core i rows r u around_it),
            ),
            (1, refl, (let zero_is = strong_at u x flag in omega (zero_is, arith))),
          );
          reached = λ n before.
              taken.outer_one k core i rows tree counts written_at counters children c d related r s held t rest stands join works free no_trigger e es
              (holder k u) (inl (u, around_it, refl)) n
              (subst (λ h. Stage k i.thread_of c1 d h n) home_is (before.0 (λ same. out.0 (sym home_is ∙ same))));
          reaches = (
            (λ ne. subst (λ h. Stage k i.thread_of c1 d h 1) (sym home_is) out.1.1),
            λ same. absurd (out.0 (sym home_is ∙ same)),
          );
        }
      where
        present : standing_of c r ≢ at.Outside
        present w = let wrong : at.Within s (t ∷ rest) ≡ at.Outside = sym stands ∙ w in absurd cc

    all_down : (zs : List ℕ) → ((u : ℕ) → Contains zs u → Contains (around k r) u) →
        AllDown core corr Told told (i.thread_of r) (i.behind_of s) (i.places_of r).left Now d4 (map i.flags_of zs)
    all_down [] within = tt
    all_down (u ∷ zs) within = ((λ x flag. strong_down u x (within u (head_in u zs)) flag), all_down zs (λ v h. within v (tail_in u v zs h)))

    abbrev own_tests : List Transition
    own_tests = answers (i.places_of r) (i.flags_of s).strong 1 (strong_aborts (own k s)) ++ answers (i.places_of r) (i.flags_of s).weak 1
        (weak_aborts (own k s))

    abbrev last_tests : List Transition
    last_tests = at_once (closing (flags_around k core i r) (i.flags_of s) (i.places_of r) (terminations (own k s)))

    check_part : Segment (machine core) corr Told d4 Now (λ last. Now) [] (CheckedTo (own_tests ++ last_tests))
    check_part =
        checks_fail core corr Told told (i.thread_of r) (i.behind_of s) (i.places_of r).left Now (flags_around k core i r) (own_tests ++ last_tests) d4
        at_join.quiet home_there (all_down (reverse (around k r)) (λ u h. in_reverse (around k r) u h))
        (at_join.here ∙ ap (at.Trying (i.behind_of s)) (continuation_tests k core i r s))

    -- ---- answers
    quiet5 : (g : ℕ) → has_to_guard (standing_of check_part.last g) ≡ false
    quiet5 g =
        ⊎_elim (λ same. ap (λ v. has_to_guard (standing_of check_part.last v)) same ∙ ap has_to_guard check_part.reaches.1.0)
        (λ ne. ap has_to_guard (check_part.reaches.1.1.0 g ne) ∙ at_join.quiet g) (same_or_not g (i.thread_of r))

    abbrev AnsweredTo : Configuration → Type 0
    AnsweredTo = Passed core corr Told told (Stage k i.thread_of c1 d) (i.thread_of r) (i.behind_of s) check_part.last last_tests

    answer_part : Segment (machine core) corr Told check_part.last Now (λ last. Now) [] AnsweredTo
    answer_part =
        tests_fail core corr Told told (Stage k i.thread_of c1 d) (i.thread_of r) (i.behind_of s) own_tests last_tests check_part.last
        (none_of check_part.last.variables (check_part.reaches.0 ∙ at_join.variables)) check_part.reaches.1.0 quiet5
        (let lt = home_there in let size = check_part.reaches.1.1.1 in omega (lt, size, arith))

    abbrev z : Configuration
    z = answer_part.last

    values_are : answer_part.last.variables ≡ d.variables
    values_are = answer_part.reaches.variables ∙ (check_part.reaches.0 ∙ at_join.variables)

    size_is : length answer_part.last.regions ≡ length d.regions
    size_is = answer_part.reaches.size ∙ (check_part.reaches.1.1.1 ∙ at_join.size)

    others_are : (g : ℕ) → g ≢ i.thread_of r → standing_of answer_part.last g ≡ standing_of d4 g
    others_are g ne = answer_part.reaches.others g ne ∙ check_part.reaches.1.1.0 g ne

    home_is : standing_of answer_part.last (i.thread_of r) ≡ at.Trying (i.behind_of s) (led_by (i.places_of r) takes.trigger t ∷ takes.later)
    home_is = answer_part.reaches.here ∙ ap (at.Trying (i.behind_of s)) takes.are

    quiet_z : (g : ℕ) → has_to_guard (standing_of answer_part.last g) ≡ false
    quiet_z g =
        ⊎_elim (λ same. ap (λ v. has_to_guard (standing_of answer_part.last v)) same ∙ ap has_to_guard home_is)
        (λ ne. ap has_to_guard (others_are g ne) ∙ at_join.quiet g) (same_or_not g (i.thread_of r))

    -- ---- the termination itself
    abbrev leads_to : Configuration
    leads_to = record {
      variables = answer_part.last.variables;
      regions = moved (acts core (i.thread_of r) (i.behind_of s) (counting (i.places_of r) t.target t.effects) (place_of (i.places_of r) t.target))
          answer_part.last.regions;
    }

    last_part : Segment (machine core) corr Told answer_part.last Now (λ last. Now) [] (λ w. w ≡ leads_to)
    last_part =
        silent_step (machine core) corr Told told answer_part.last leads_to (i.thread_of r) None (access_of_trigger takes.trigger) Now Now (λ w. w ≡ leads_to)
        (takes_any core answer_part.last (i.thread_of r) (i.behind_of s) (led_by (i.places_of r) takes.trigger t) takes.later
        (unguarded core answer_part.last quiet_z (around core (i.thread_of r))) home_is
        (subst (λ vs. verdict vs takes.trigger ≡ Some true) (sym values_are) takes.true_there) (lone.behind_alone s))
        (ap access_of home_is) takes.silent
        (λ more climbs. climbs_home corr (Stage k i.thread_of c1 d) (i.thread_of r) 0 (access_of_trigger takes.trigger) more climbs) refl

    tail_part : Segment (machine core) corr Told d4 Now (λ last. Now) [] (λ w. w ≡ leads_to)
    tail_part =
        segment_on (machine core) corr Told d4 Now (λ last. Now) (λ last. Now) [] [] (CheckedTo (own_tests ++ last_tests)) (λ w. w ≡ leads_to) check_part
        (segment_on (machine core) corr Told check_part.last Now (λ last. Now) (λ last. Now) [] [] AnsweredTo (λ w. w ≡ leads_to) answer_part last_part)

    all_parts : Segment (machine core) corr Told d (Stage k i.thread_of c d) (λ last. Now) (act_of (machine k) c r ∷ []) (λ w. w ≡ leads_to)
    all_parts =
        segment_on (machine core) corr Told d (Stage k i.thread_of c d) (λ last. AtHome (Stage k i.thread_of c d) (i.thread_of r) 3) (λ last. Now) []
        (act_of (machine k) c r ∷ []) _ (λ w. w ≡ leads_to) first
        (segment_on (machine core) corr Told first.last (AtHome (Stage k i.thread_of c d) (i.thread_of r) 3) (λ last. Now) (λ last. Now)
        (act_of (machine k) c r ∷ []) [] (λ w. w ≡ d4) (λ w. w ≡ leads_to) image_part
        (subst (λ w. Segment (machine core) corr Told w Now (λ last. Now) [] (λ v. v ≡ leads_to)) (sym image_part.reaches) tail_part))

    followed : Segment (machine core) corr Told d (Stage k i.thread_of c d) (Stage k i.thread_of c1) (act_of (machine k) c r ∷ []) (λ w. w ≡ leads_to)
    followed =
        record {
          log = all_parts.log;
          last = all_parts.last;
          follows = all_parts.follows;
          charted = all_parts.charted;
          fits = all_parts.fits;
          climbs = λ more climbs.
              all_parts.climbs more
              (climbs_fewer corr (Stage k i.thread_of c1 all_parts.last) Now more
              (taken.stage_now k core i rows tree counts written_at counters children c d related r s held t rest stands join works free no_trigger e es
              all_parts.last) climbs);
          reaches = all_parts.reaches;
        }

    -- ---- what is reached corresponds
    abbrev y : Standing
    y = at.Acting s (e ∷ es) t.target

    abbrev x : Standing
    x = at.Acting (i.behind_of s) (counting (i.places_of r) t.target (e ∷ es)) (place_of (i.places_of r) t.target)

    abbrev d1 : Configuration
    d1 = record {
      variables = answer_part.last.variables;
      regions = slice_set answer_part.last.regions (i.thread_of r)
          (at.Acting (i.behind_of s) (counting (i.places_of r) t.target (e ∷ es)) (place_of (i.places_of r) t.target));
    }

    main_held : holder core (i.main_of s) ≡ i.thread_of r
    main_held = rows.held s ∙ ap i.thread_of held

    not_home : (g : ℕ) → Contains (around core g) (i.main_of s) → g ≢ i.thread_of r
    not_home g h is = holds_other core core_tree (i.thread_of r) (i.main_of s) (subst (λ p. Contains (around core p) (i.main_of s)) is h) main_held

    no_inside : (u : ℕ) → IsInside k core i u y → ⊥
    no_inside u inner = inside_not_acting k core i u y inner s (e ∷ es) t.target refl

    kept_value : (f : Option ℕ) (n : ℕ) → Stores k core i d.variables f n → Stores k core i answer_part.last.variables f n
    kept_value f n stores = subst (λ vs. Stores k core i vs f n) (sym values_are) stores

    drops_all : DropsOut k core i rows tree children c d r s y x c1 d1
    drops_all =
        record {
          there = there;
          held = held;
          was_there = λ w. let wrong : at.Within s (t ∷ rest) ≡ at.Outside = sym stands ∙ w in absurd cc;
          was_not_over = ap has_ended stands;
          only = λ u inner. only_inside k core i s u (at.Within s (t ∷ rest)) (open_inside (t ∷ rest)) (subst (IsInside k core i u) stands inner);
          chart = refl;
          size = length-set answer_part.last.regions (i.thread_of r) x ∙ size_is;
          dropped = λ g h.
              set_other answer_part.last.regions (i.thread_of r) g x (not_home g h) ∙ (others_are g (not_home g h) ∙ at_join.inside g h);
          here_too = set_here answer_part.last.regions (i.thread_of r) x
              (let lt = (rows.region r there).there.1 in let size = size_is in omega (lt, size, related.core_regions, arith));
          others = λ g ne out_g. set_other answer_part.last.regions (i.thread_of r) g x ne ∙ (others_are g ne ∙ at_join.outside g ne out_g);
          stands = acting s (i.behind_of s) t.target e es target_there;
          not_over = refl;
          is_there = λ w. absurd cc;
          not_inside = no_inside;
          no_guard = refl;
          free = free;
          more = related.more;
          variables = values_are ∙ related.variables;
          flag_count = ap length values_are ∙ related.flag_count;
          values = related.values;
          strong = λ u n differ stores. kept_value (i.flags_of u).strong n stores;
          weak = λ u n differ stores. kept_value (i.flags_of u).weak n stores;
          counter = λ u n differ stores. kept_value (i.flags_of u).counter n stores;
        }

    related1 : Related k core i c1 d1
    related1 = dropped_out k core i rows tree children c d related r s y x c1 d1 drops_all

  -- ---- the step
  module _ (last : Configuration) (steps_to : step k r c ≡ Some last) where
    abbrev Follows : Type 0
    Follows = left_for.Followed k core i rows tree counts written_at Told c d r s t last (Related k core i last)

    last_is : last ≡ record { variables = c.variables; regions = moved (acts k r s t.effects t.target) (moved (drops (inside k s)) c.regions) }
    last_is = left_for.chart_takes k c r s t (to r (at.Within s rest) ∷ []) (ap (verdict c.variables) no_trigger) (ap (change_of k c r) stands) last steps_to

    -- with effects
    pub split_terminates : (e : Effect) (es : List Effect) → t.effects ≡ e ∷ es → Follows
    split_terminates e es some =
        left_for.with_effects k core i rows tree counts written_at Told c d r s t (i.behind_of s) (z e es).variables (z e es).regions last last_is e es
        (related1 e es) (followed e es) some

    -- without
    pub split_enters : Enters k core i rows tree counts written_at Told →
        BeginsAt r (state_at k (state_in k r t.target)).entered → BeginsAt (i.thread_of r) (state_at core (i.entry_of (state_in k r t.target))).entered →
        t.effects ≡ [] → Follows
    split_enters enters chart_first core_first none =
        left_for.without_effects k core i rows tree counts written_at Told c d r s t (i.behind_of s) (z (put 0 0) []).variables (z (put 0 0) []).regions last
        last_is told enters counters super_there target_there chart_first core_first
        (taken.here k core i rows tree counts written_at counters children c d related r s held t rest stands join works free no_trigger (put 0 0) [])
        (taken.free1 k core i rows tree counts written_at counters children c d related r s held t rest stands join works free no_trigger (put 0 0) [])
        (related1 (put 0 0) []) (followed (put 0 0) []) none
