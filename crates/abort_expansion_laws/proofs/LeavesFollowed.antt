-- The steps of a chart by which a superstate is left are followed: aborts that are taken, and terminations.
use Rattle.std.proofs.Common.{◌≡◌, ◌≢◌, ℕ, ◌<◌, ◌⊎◌, inl, inr, Bool, true, false, not, ◌&&◌, Some, None, List, [], ◌∷◌, length, map, slice_get}
use Rattle.std.proofs.Common.{option_map, Contains, refl, sym, ap, subst, ◌∙◌}
use Rattle.std.proofs.lemmas.Bool.{or_right}
use Rattle.sc_values.specs.declared.value.Kind.TheVariants as kind_is
use Rattle.sc_graph.specs.Steps.{takes_kind}
use Rattle.core_charts.specs.declared.features.Features.TheVariants as features
use Rattle.core_charts.specs.declared.region.Effect.{Effect}
use Rattle.core_charts.specs.declared.region.Transition.{Transition}
use Rattle.core_charts.specs.Aborts.{has_aborts, has_strong, has_weak}
use Rattle.core_charts.specs.Chart.{Chart}
use Rattle.core_charts.specs.Rules.{IsChart}
use Rattle.core_charts.specs.Tests.{is_weak, is_join}
use Rattle.chart_machine.specs.declared.standing.Standing.{Standing}
use Rattle.chart_machine.specs.declared.standing.Standing.TheVariants as at
use Rattle.chart_machine.specs.declared.standing.Configuration.{Configuration}
use Rattle.chart_machine.specs.declared.table.Table.{Table}
use Rattle.chart_machine.specs.Table.{table, region_at}
use Rattle.chart_machine.specs.Turns.{standing_of, inside, guards as has_to_guard}
use Rattle.chart_machine.specs.Steps.{verdict, step, state_in, access_of_trigger}
use Rattle.abort_expansion.specs.Expansion.{expanded}
use Rattle.abort_expansion.specs.Flags.{has_join}
use Rattle.abort_expansion.specs.Superstates.{stays}
use Rattle.abort_expansion.specs.Transitions.{led}
use Rattle.chart_machine_laws.specs.Tree.{holder}
use Rattle.chart_machine_laws.proofs.ChartTables.{around_there}
use Rattle.abort_expansion_laws.specs.Stages.{Entry}
use Rattle.abort_expansion_laws.specs.CoreRows.{own, IsState, IsSuper, joins, Images, CoreRows, flags_around}
use Rattle.abort_expansion_laws.specs.Related.{Stands, outside, ended, left, trying, acting, entering, guarding, staying, within, behind, Related}
use Rattle.abort_expansion_laws.proofs.CasesFollowed.{has_from}
use Rattle.abort_expansion_laws.proofs.CasesFollowed as cases
use Rattle.abort_expansion_laws.proofs.FlagStages.{FlagStages, WeakFits}
use Rattle.abort_expansion_laws.proofs.TickRows.{alone_rows, start_rows}
use Rattle.abort_expansion_laws.proofs.KnownVariables.{Stepped}
use Rattle.abort_expansion_laws.proofs.MoreRows.{alone, opening_rows, strong_of, counter_given}
use Rattle.abort_expansion_laws.proofs.OwnTests.{OwnTests, IsOwn}
use Rattle.abort_expansion_laws.proofs.QuietBegins.{state_with_aborts}
use Rattle.abort_expansion_laws.proofs.RowsOfCharts as whole
use Rattle.abort_expansion_laws.proofs.SplitTerminates.{split_terminates, split_enters}
use Rattle.abort_expansion_laws.proofs.StayingTerminates.{staying_terminates, staying_enters}
use Rattle.abort_expansion_laws.proofs.StrongNotTaken.{IsGuarding, MonitorGuards}
use Rattle.abort_expansion_laws.proofs.StrongTaken.{strong_followed, strong_entered}
use Rattle.abort_expansion_laws.proofs.TestTargets.{ends_untested}
use Rattle.abort_expansion_laws.proofs.TicksOfCharts as ticks
use Rattle.abort_expansion_laws.proofs.ToldSteps.{told_silent, told_weak, ToldHere}
use Rattle.abort_expansion_laws.proofs.WeakNotTaken.{within_back, MonitorWaits}
use Rattle.abort_expansion_laws.proofs.WeakTaken.{weak_followed, weak_entered}

-- ---- a superstate with a termination: its fork is as it was, or split

module _ (k core : Table) (i : Images) (r s : ℕ) where
  data OpenAs (tests : List Transition) (y : Standing) : Type 0 where
    as_it_was : IsSuper k s → holder k s ≡ r → stays (flags_around k core i r) (own k s) ≡ true →
        y ≡ at.Within (i.main_of s) (map (led (i.places_of r)) tests) → OpenAs tests y
    as_split : IsSuper k s → holder k s ≡ r → stays (flags_around k core i r) (own k s) ≡ false → (join : ℕ) →
        state_in core (i.thread_of r) join ≡ i.behind_of s → y ≡ at.Within (i.main_of s) (joins join ∷ []) → OpenAs tests y

  not_behind : (a b d z : Bool) → d ≡ true → (not a && (not b && (not d && z))) ≡ true → ⊥
  not_behind true b d z joined e = absurd cc
  not_behind false true d z joined e = absurd cc
  not_behind false false true z joined e = absurd cc
  not_behind false false false z joined e = absurd cc

  open_as : (c : Configuration) (x y : Standing) → Stands k core i c r x y → (tests : List Transition) → x ≡ at.Within s tests →
      has_join (own k s) ≡ true → OpenAs tests y
  open_as c _ _ outside tests e joined = absurd cc
  open_as c _ _ (ended inner) tests e joined = absurd cc
  open_as c _ _ (left u ss f over) tests e joined = absurd cc
  open_as c _ _ (trying u others simple held) tests e joined = absurd cc
  open_as c _ _ (acting u v p g effects lt) tests e joined = absurd cc
  open_as c _ _ (entering u fork t others super held leads) tests e joined = absurd cc
  open_as c _ _ (guarding u join t others has held leads) tests e joined = absurd cc
  open_as c _ _ (staying u others super held stay) tests e joined =
      let state : u ≡ s = cc in
      let same : others ≡ tests = cc in
      as_it_was (subst (IsSuper k) state super) (ap (holder k) (sym state) ∙ held)
      (ap (λ v. stays (flags_around k core i r) (own k v)) (sym state) ∙ stay)
      (ap (λ v. at.Within (i.main_of v) (map (led (i.places_of r)) others)) state ∙ ap (λ ts. at.Within (i.main_of s) (map (led (i.places_of r)) ts)) same)
  open_as c _ _ (within u join others super held stay open_still leads) tests e joined =
      let state : u ≡ s = cc in
      as_split (subst (IsSuper k) state super) (ap (holder k) (sym state) ∙ held)
      (ap (λ v. stays (flags_around k core i r) (own k v)) (sym state) ∙ stay) join (leads ∙ ap i.behind_of state)
      (ap (λ v. at.Within (i.main_of v) (joins join ∷ [])) state)
  open_as c _ _ (behind u others super held over) tests e joined =
      let state : u ≡ s = cc in
      absurd (not_behind (stays (flags_around k core i (holder k u)) (own k u)) (has_aborts (own k u)) (has_join (own k u)) _
      (ap (λ v. has_join (own k v)) state ∙ joined) over)

module _ (c : Chart) (rules : IsChart features.Extended c) (core_rules : IsChart features.Core (expanded c)) (stages : FlagStages c rules core_rules)
  where
    abbrev k : Table
    k = table c

    abbrev core : Table
    core = table (expanded c)

    abbrev i : Images
    i = whole.i c rules core_rules

    abbrev rows : CoreRows k core i
    rows = ticks.rows c rules core_rules

    abbrev Told : Configuration → Entry → Type 0
    Told = ToldHere c rules core_rules

    -- flags and counters differ from those of other superstates
    flag_differs : (o x : ℕ) → ((i.flags_of o).strong ≡ Some x) ⊎ (((i.flags_of o).weak ≡ Some x) ⊎ ((i.flags_of o).counter ≡ Some x)) → (s : ℕ) → s ≢ o →
        ((i.flags_of s).strong ≢ Some x) × ((i.flags_of s).weak ≢ Some x) × ((i.flags_of s).counter ≢ Some x)
    flag_differs o x is s ne =
        ((λ e. ne (same (inl e))), (λ e. ne (same (inr (inl e)))), (λ e. ne (same (inr (inr e)))))
      where
        same : ((i.flags_of s).strong ≡ Some x) ⊎ (((i.flags_of s).weak ≡ Some x) ⊎ ((i.flags_of s).counter ≡ Some x)) → s ≡ o
        same e = sym ((opening_rows c rules core_rules).flag_of s x e).0 ∙ ((opening_rows c rules core_rules).flag_of o x is).0

    watching_alone : (o : ℕ) → IsState k o → has_aborts (own k o) ≡ true → inside core (i.watching_of o) ≡ []
    watching_alone o here has = alone c rules core_rules (i.watching_of o) (ap (λ z. z.regions) (rows.watcher o here has).row)

    module _ (now d : Configuration) (related : Related k core i now d) (owns : OwnTests k now) (r : ℕ) (next : Configuration)
        (goes : step k r now ≡ Some next) where
      abbrev Followed : Type 0
      Followed = cases.Followed c rules core_rules stages now d r next

      parts : Stepped k r now next
      parts = cases.parts c rules core_rules stages now d related owns r next goes

      -- ---- a strong abort

      module _ (o : ℕ) (t : Transition) (tests : List Transition) (stands : standing_of now r ≡ at.Guarding o (t ∷ tests))
          (monitor : MonitorGuards k core i o t tests (standing_of d (i.watcher_of o))) (holds : verdict now.variables t.trigger ≡ Some true) where
        guards : IsGuarding k core i r o (standing_of d (i.thread_of r))
        guards = cases.guards c rules core_rules stages now d related owns r next goes o t tests stands monitor

        here : IsState k o
        here = state_with_aborts k o guards.has

        flag : (x : ℕ) × ((i.flags_of o).strong ≡ Some x)
        flag = cases.flag c rules core_rules stages now d related owns r next goes o t tests stands monitor

        row : (rows.of_flag flag.0 ≡ o) × ((takes_kind (option_map (λ z. z.kind) (slice_get core.variables flag.0)) kind_is.Int ≡ true)
            × (flag.0 < length core.variables))
        row = (opening_rows c rules core_rules).flag_of o flag.0 (inl flag.1)

        guards_there : has_to_guard (standing_of now (holder k o)) ≡ true
        guards_there = ap has_to_guard (ap (standing_of now) guards.held ∙ stands)

        target : t.target < length (region_at k r).states
        target =
            cases.target_of c rules core_rules stages now d related owns r next goes o t here guards.held (subst (IsOwn k) stands (owns r)).0

        pub strong_taken : Followed
        strong_taken = by_effects t.effects refl
          where
            by_effects : (es : List Effect) → t.effects ≡ es → Followed
            by_effects (e ∷ es) some =
                strong_followed k core i rows (alone_rows c rules core_rules) (ticks.nested c rules core_rules)
                (whole.core_tree c rules core_rules).nested (whole.core_tree c rules core_rules).deeper (whole.core_tree c rules core_rules).children
                (whole.tree c rules core_rules).children (ticks.counts c rules core_rules) stages.written_at
                stages.counters (opening_rows c rules core_rules) stages.strong_zero (whole.super_there c rules core_rules)
                (whole.super_of c rules core_rules) Told (told_silent k core i) now d
                related r o here t tests stands monitor holds (λ q inner. related.calm q o (around_there k q o inner) inner guards_there) flag.0 flag.1
                (strong_of c rules core_rules o flag.0 flag.1) (stages.counters.strong_not o flag.0 flag.1)
                (stages.strong_zero o flag.0 flag.1) row.1.0 row.1.1 (watching_alone o here guards.has) e es some target
                (whole.super_of c rules core_rules o here guards.has) (flag_differs o flag.0 (inl flag.1))
                (λ first. cases.strong_told c rules core_rules stages now d related owns r next goes o t tests stands monitor) parts.free next goes
            by_effects [] none =
                strong_entered k core i rows (alone_rows c rules core_rules) (ticks.nested c rules core_rules)
                (whole.core_tree c rules core_rules).nested (whole.core_tree c rules core_rules).deeper (whole.core_tree c rules core_rules).children
                (whole.tree c rules core_rules).children (ticks.counts c rules core_rules) stages.written_at
                stages.counters (opening_rows c rules core_rules) stages.strong_zero (whole.super_there c rules core_rules)
                (whole.super_of c rules core_rules) Told (told_silent k core i) now d
                related r o here t tests stands monitor holds (λ q inner. related.calm q o (around_there k q o inner) inner guards_there) flag.0 flag.1
                (strong_of c rules core_rules o flag.0 flag.1) (stages.counters.strong_not o flag.0 flag.1)
                (stages.strong_zero o flag.0 flag.1) row.1.0 row.1.1 (watching_alone o here guards.has) none target
                (whole.super_of c rules core_rules o here guards.has) (flag_differs o flag.0 (inl flag.1))
                (λ first. cases.strong_told c rules core_rules stages now d related owns r next goes o t tests stands monitor) parts.free
                (cases.law_of_entering c rules core_rules stages)
                (cases.chart_first c rules core_rules stages now d related owns r next goes t.target target)
                (cases.core_first c rules core_rules stages now d related owns r next goes t.target target) next goes

      -- ---- a weak abort

      module _ (o : ℕ) (t : Transition) (tests : List Transition) (stands : standing_of now r ≡ at.Within o (t ∷ tests))
          (holds : verdict now.variables t.trigger ≡ Some true) (own_one : Contains (own k o) t) (is_weak_one : is_weak t.kind ≡ true)
          (monitor : MonitorWaits k core i o t tests (standing_of d (i.watcher_of o))) where
        weak_has : has_aborts (own k o) ≡ true
        weak_has = or_right (has_strong (own k o)) (has_weak (own k o)) (has_from (λ z. is_weak z.kind) (own k o) t own_one is_weak_one)

        weak_here : IsState k o
        weak_here = state_with_aborts k o weak_has

        held : holder k o ≡ r
        held =
            (within_back k core i now r o weak_has (standing_of now r) (standing_of d (i.thread_of r))
            (related.regions r (cases.there c rules core_rules stages now d related owns r next goes)) (t ∷ tests) stands).held

        weak_target : t.target < length (region_at k r).states
        weak_target = cases.target_of c rules core_rules stages now d related owns r next goes o t weak_here held own_one

        -- where the flag counts as written at stage 2, and those of superstates around before
        pub weak_taken : WeakFits c rules core_rules stages r o → Followed
        weak_taken fits = by_effects t.effects refl
          where
            by_effects : (es : List Effect) → t.effects ≡ es → Followed
            by_effects (e ∷ es) some =
                weak_followed k core i rows (alone_rows c rules core_rules) (ticks.nested c rules core_rules)
                (whole.core_tree c rules core_rules).nested (whole.core_tree c rules core_rules).deeper (whole.core_tree c rules core_rules).children
                (whole.tree c rules core_rules).children (ticks.counts c rules core_rules) stages.written_at
                stages.counters (opening_rows c rules core_rules) (start_rows c rules core_rules) stages.low
                stages.strong_zero (alone c rules core_rules) now d related r o weak_here weak_has t is_weak_one tests
                stands monitor holds parts.free parts.done fits.own_two fits.outer_zero Told (told_silent k core i)
                (told_weak k core i d r (i.watcher_of o) (access_of_trigger t.trigger)) e es some weak_target next goes
            by_effects [] none =
                weak_entered k core i rows (alone_rows c rules core_rules) (ticks.nested c rules core_rules)
                (whole.core_tree c rules core_rules).nested (whole.core_tree c rules core_rules).deeper (whole.core_tree c rules core_rules).children
                (whole.tree c rules core_rules).children (ticks.counts c rules core_rules) stages.written_at
                stages.counters (opening_rows c rules core_rules) (start_rows c rules core_rules) stages.low
                stages.strong_zero (alone c rules core_rules) now d related r o weak_here weak_has t is_weak_one tests
                stands monitor holds parts.free parts.done fits.own_two fits.outer_zero Told (told_silent k core i)
                (told_weak k core i d r (i.watcher_of o) (access_of_trigger t.trigger)) none weak_target next goes
                (cases.law_of_entering c rules core_rules stages)
                (cases.chart_first c rules core_rules stages now d related owns r next goes t.target weak_target)
                (cases.core_first c rules core_rules stages now d related owns r next goes t.target weak_target)

      -- ---- a termination

      module _ (s : ℕ) (t : Transition) (tests : List Transition) (stands : standing_of now r ≡ at.Within s (t ∷ tests)) (own_one : Contains (own k s) t)
          (join : is_join t.kind ≡ true) where
        joined : has_join (own k s) ≡ true
        joined = has_from (λ z. is_join z.kind) (own k s) t own_one join

        no_trigger : t.trigger ≡ None
        no_trigger = ends_untested features.Extended c rules s t own_one join

        by_fork : OpenAs k core i r s (t ∷ tests) (standing_of d (i.thread_of r)) → Followed
        by_fork (as_it_was super held stay core_stands) = by_effects t.effects refl
          where
            s_there : IsState k s
            s_there = whole.is_state_super c rules core_rules s super

            target : t.target < length (region_at k r).states
            target = cases.target_of c rules core_rules stages now d related owns r next goes s t s_there held own_one

            by_effects : (es : List Effect) → t.effects ≡ es → Followed
            by_effects (e ∷ es) some =
                staying_terminates k core i rows (ticks.nested c rules core_rules) (whole.core_tree c rules core_rules).nested
                (ticks.counts c rules core_rules) stages.written_at stages.counters
                (whole.tree c rules core_rules).children now d related r s held t tests stands join parts.works parts.free no_trigger s_there super stay
                core_stands target Told (inl refl) next goes e es some
            by_effects [] none =
                staying_enters k core i rows (ticks.nested c rules core_rules) (whole.core_tree c rules core_rules).nested
                (ticks.counts c rules core_rules) stages.written_at stages.counters
                (whole.tree c rules core_rules).children now d related r s held t tests stands join parts.works parts.free no_trigger s_there super stay
                core_stands target Told (inl refl) next goes (told_silent k core i) (cases.law_of_entering c rules core_rules stages)
                (whole.super_there c rules core_rules) (cases.chart_first c rules core_rules stages now d related owns r next goes t.target target)
                (cases.core_first c rules core_rules stages now d related owns r next goes t.target target) none
        by_fork (as_split super held splits j leads forked) = by_effects t.effects refl
          where
            s_there : IsState k s
            s_there = whole.is_state_super c rules core_rules s super

            target : t.target < length (region_at k r).states
            target = cases.target_of c rules core_rules stages now d related owns r next goes s t s_there held own_one

            by_effects : (es : List Effect) → t.effects ≡ es → Followed
            by_effects (e ∷ es) some =
                split_terminates k core i rows (alone_rows c rules core_rules) (ticks.nested c rules core_rules)
                (whole.core_tree c rules core_rules).nested (ticks.counts c rules core_rules) stages.written_at
                stages.counters (opening_rows c rules core_rules) stages.low stages.strong_zero
                (whole.super_there c rules core_rules) (whole.tree c rules core_rules).children Told (told_silent k core i) now d related r s held t tests
                stands join parts.works parts.free no_trigger s_there super splits j leads forked (counter_given c rules core_rules)
                (alone c rules core_rules) target (λ e last at_last same. inl refl) next goes e es some
            by_effects [] none =
                split_enters k core i rows (alone_rows c rules core_rules) (ticks.nested c rules core_rules)
                (whole.core_tree c rules core_rules).nested (ticks.counts c rules core_rules) stages.written_at
                stages.counters (opening_rows c rules core_rules) stages.low stages.strong_zero
                (whole.super_there c rules core_rules) (whole.tree c rules core_rules).children Told (told_silent k core i) now d related r s held t tests
                stands join parts.works parts.free no_trigger s_there super splits j leads forked (counter_given c rules core_rules)
                (alone c rules core_rules) target (λ e last at_last same. inl refl) next goes (cases.law_of_entering c rules core_rules stages)
                (cases.chart_first c rules core_rules stages now d related owns r next goes t.target target)
                (cases.core_first c rules core_rules stages now d related owns r next goes t.target target) none

        pub terminated : Followed
        terminated =
            by_fork (open_as k core i r s now (standing_of now r) (standing_of d (i.thread_of r))
            (related.regions r (cases.there c rules core_rules stages now d related owns r next goes)) (t ∷ tests) stands joined)
