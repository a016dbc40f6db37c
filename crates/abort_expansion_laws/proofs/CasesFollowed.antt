-- Steps of a chart that are followed, each by its lemma, with what the rows of an expanded chart give for it.
use Rattle.std.proofs.Common.{◌≡◌, ℕ, ◌<◌, ⊎_elim, Bool, true, false, Option, Some, None, List, [], ◌∷◌, length, slice_get}
use Rattle.std.proofs.lemmas.Option.{same_Some}
use Rattle.std.proofs.Common.{option_map, option_and_then, Contains, refl, sym, ap, subst, ◌∙◌}
use Rattle.std.specs.List.{list_any}
use Rattle.std.proofs.lemmas.Bool.{or_left, or_right}
use Rattle.sc_values.specs.Access.{Access}
use Rattle.sc_values.specs.Assignment.{assignment_of, access_of_assignment}
use Rattle.sc_values.specs.Expr.{value as value_of}
use Rattle.sc_values.specs.Operator.{kind_of}
use Rattle.sc_values.specs.Runs.{act_of}
use Rattle.sc_values.specs.declared.value.Value.{Value}
use Rattle.sc_graph.specs.Steps.{only_if, takes_kind}
use Rattle.core_charts.specs.declared.features.Features.TheVariants as features
use Rattle.core_charts.specs.declared.region.Effect.{Effect}
use Rattle.core_charts.specs.declared.region.Transition.{Transition}
use Rattle.core_charts.specs.Aborts.{has_aborts, has_strong, has_weak}
use Rattle.core_charts.specs.Chart.{Chart}
use Rattle.core_charts.specs.Rules.{IsChart}
use Rattle.core_charts.specs.Tests.{is_weak, at_once, first_closing_tests}
use Rattle.chart_machine.specs.declared.region_change.RegionChange.{RegionChange}
use Rattle.chart_machine.specs.declared.standing.Standing.TheVariants as at
use Rattle.chart_machine.specs.declared.standing.Configuration.{Configuration}
use Rattle.chart_machine.specs.declared.table.Table.{Table}
use Rattle.chart_machine.specs.Table.{table, state_at, region_at}
use Rattle.chart_machine.specs.Turns.{standing_of, has_work, inside}
use Rattle.chart_machine.specs.Steps.{to, after, verdict, taken, step, state_in, access_of_trigger, effected, change_of}
use Rattle.chart_machine.specs.Machine.{machine}
use Rattle.abort_expansion.specs.Expansion.{expanded}
use Rattle.abort_expansion.specs.Superstates.{is_prepared}
use Rattle.tick_laws.proofs.Lists.{contains_none, contains_cons}
use Rattle.chart_machine_laws.specs.Tree.{IsThere, around, holder}
use Rattle.chart_machine_laws.proofs.LyingIn.{head_in}
use Rattle.abort_expansion_laws.specs.Segments.{Segment}
use Rattle.abort_expansion_laws.specs.Stages.{Entry, Image}
use Rattle.abort_expansion_laws.specs.StageReached.{Stage}
use Rattle.abort_expansion_laws.specs.CoreRows.{own, is_final, IsState, IsSimple, Images, CoreRows, flags_around}
use Rattle.abort_expansion_laws.specs.Related.{Related}
use Rattle.abort_expansion_laws.proofs.InsideAround.{inside_around}
use Rattle.abort_expansion_laws.proofs.EffectFollowed.{IsActing, acting_back, effect_followed}
use Rattle.abort_expansion_laws.proofs.EntryPassed.{entry_passed}
use Rattle.abort_expansion_laws.proofs.EntryTestFails.{IsEntering, entering_back, opening_on_followed}
use Rattle.abort_expansion_laws.proofs.EntryTestHolds.{entry_followed, entry_taken}
use Rattle.abort_expansion_laws.proofs.ChartsOpened.{entry_rows, unflagged, charts_settle}
use Rattle.abort_expansion_laws.proofs.EffectAhead.{BeginsAt}
use Rattle.abort_expansion_laws.proofs.TickRows.{alone_rows}
use Rattle.abort_expansion_laws.proofs.InitialPairs.{held_there}
use Rattle.abort_expansion_laws.proofs.LastEffect.{last_effect}
use Rattle.abort_expansion_laws.proofs.OpenedInside.{charts_enter}
use Rattle.abort_expansion_laws.proofs.Owed.{Enters, chart_enters}
use Rattle.abort_expansion_laws.proofs.StateEntry.{Entry as EntryOf, entry_ends, entry_tries, entry_guards, entry_opens}
use Rattle.abort_expansion_laws.proofs.TakenAtOnce.{taken_on}
use Rattle.abort_expansion_laws.proofs.TargetsEntered.{targets_are_entered}
use Rattle.abort_expansion_laws.proofs.TargetEntered.{entry_held}
use Rattle.abort_expansion_laws.proofs.KnownVariables.{Stepped, stepped, present_there}
use Rattle.abort_expansion_laws.proofs.LastStrongFollowed.{last_strong_followed}
use Rattle.abort_expansion_laws.proofs.MoreRows.{alone, simple_alone, opening_rows, strong_of}
use Rattle.abort_expansion_laws.proofs.OwnTests.{OwnTests, IsOwn}
use Rattle.abort_expansion_laws.proofs.QuietBegins.{GuardTold, state_with_aborts}
use Rattle.abort_expansion_laws.proofs.RowsOfCharts as whole
use Rattle.abort_expansion_laws.proofs.StrongNotTaken.{IsGuarding, guarding_back, MonitorGuards}
use Rattle.abort_expansion_laws.proofs.StrongNotTaken as strong
use Rattle.abort_expansion_laws.proofs.TestFails.{IsTrying, trying_back, failing_followed, tested_is}
use Rattle.abort_expansion_laws.proofs.TestHolds.{holding_followed}
use Rattle.abort_expansion_laws.proofs.TestTargets.{targets_there}
use Rattle.abort_expansion_laws.proofs.TicksOfCharts as ticks
use Rattle.abort_expansion_laws.proofs.ToldSteps.{told_image, told_silent, told_weak, ToldHere}
use Rattle.abort_expansion_laws.proofs.WeakNotTaken as weak
use Rattle.abort_expansion_laws.proofs.FlagStages.{FlagStages}

pub has_from : (p : Transition → Bool) (ts : List Transition) (t : Transition) → Contains ts t → p t ≡ true → list_any p ts ≡ true
has_from p [] t h is = absurd (contains_none t h)
has_from p (x ∷ xs) t h is =
    ⊎_elim (λ same. or_left (p x) (list_any p xs) (ap p same ∙ is)) (λ tail. or_right (p x) (list_any p xs) (has_from p xs t tail is))
    (contains_cons x t xs h)

-- a state is entered by a move of the region that holds it first
begins_at : (k : Table) (x : ℕ) → EntryOf k x → BeginsAt (holder k x) (state_at k x).entered
begins_at k x (entry_ends e) = record { first = at.Ended; others = []; are = e }
begins_at k x (entry_tries none e) = record { first = at.Trying x (at_once (own k x)); others = []; are = e }
begins_at k x (entry_guards t tests some strong e) = record { first = at.Entering x (t ∷ tests); others = []; are = e }
begins_at k x (entry_opens some strong e) = record { first = at.Within x (first_closing_tests (own k x)); others = (state_at k x).opened; are = e }

module _ (c : Chart) (rules : IsChart features.Extended c) (core_rules : IsChart features.Core (expanded c)) (stages : FlagStages c rules core_rules)
  where
    abbrev k : Table
    k = table c

    abbrev core : Table
    core = table (expanded c)

    abbrev i : Images
    i = whole.i c rules core_rules

    abbrev rows : CoreRows k core i
    rows = ticks.rows c rules core_rules

    abbrev Told : Configuration → Entry → Type 0
    Told = ToldHere c rules core_rules

    -- this step is followed, where flags count as written at these stages
    abbrev pub Followed : (now d : Configuration) (r : ℕ) (next : Configuration) → Type 0
    Followed now d r next =
        Segment (machine core) (ticks.corr_at c rules core_rules stages) Told d (Stage k i.thread_of now d) (Stage k i.thread_of next)
        (act_of (machine k) now r ∷ []) (Related k core i next)

    pub law_of_entering : Enters k core i rows (ticks.nested c rules core_rules) (ticks.counts c rules core_rules) stages.written_at Told
    law_of_entering = targets_are_entered c rules core_rules stages Told (told_silent k core i)

    pub super_there : (q u : ℕ) → IsThere k q → Contains (around k q) u → IsState k u
    super_there q u there h = whole.super_there c rules core_rules q u h

    -- ---- the others

    module _ (now d : Configuration) (related : Related k core i now d) (owns : OwnTests k now) (r : ℕ) (next : Configuration)
        (goes : step k r now ≡ Some next) where
      pub parts : Stepped k r now next
      parts = stepped k r now next goes

      pub there : IsThere k r
      there =
          present_there k core i now d related r
          (λ out. let wrong : true ≡ false = sym parts.works ∙ ap (has_work k now) out in absurd cc)

      image_told : (a : Access) → Told d (Image r a)
      image_told a = told_image k core i now d next r a related goes

      pub failing : (s : ℕ) (t : Transition) (tests : List Transition) → standing_of now r ≡ at.Trying s (t ∷ tests) →
          verdict now.variables t.trigger ≡ Some false → Followed now d r next
      failing s t tests stands fails =
          failing_followed k core i rows (ticks.nested c rules core_rules) (ticks.counts c rules core_rules) stages.written_at now d
          related r s t tests stands Told (image_told (access_of_trigger t.trigger)) next goes fails

      -- nothing is inside of a simple state
      pub bare : (s : ℕ) → IsSimple k s → inside k s ≡ []
      bare s simple = by (inside k s) refl
        where
          by : (rs : List ℕ) → inside k s ≡ rs → inside k s ≡ []
          by [] is = is
          by (q ∷ rs) is =
              absurd (whole.super_around c rules core_rules q s (inside_around k s q (subst (λ zs. Contains zs q) (sym is) (head_in q rs))) simple.no_regions)

      pub target_of : (s : ℕ) (t : Transition) → IsState k s → holder k s ≡ r → Contains (own k s) t → t.target < length (region_at k r).states
      target_of s t here held own_one =
          subst (λ q. t.target < length (region_at k q).states) held (targets_there features.Extended c rules s here t own_one)

      pub holding : (s : ℕ) (t : Transition) (tests : List Transition) → standing_of now r ≡ at.Trying s (t ∷ tests) →
          verdict now.variables t.trigger ≡ Some true → (e : Effect) (es : List Effect) → t.effects ≡ e ∷ es → Followed now d r next
      holding s t tests stands holds e es effects =
          holding_followed k core i rows (ticks.nested c rules core_rules) (ticks.counts c rules core_rules) stages.written_at now d
          related r s t tests stands e es effects (target_of s t simple.there back.held own_one) (bare s simple)
          (simple_alone c rules core_rules s simple) Told (image_told (access_of_trigger t.trigger)) next goes holds
        where
          back : IsTrying k core i now r s (t ∷ tests) (standing_of d (i.thread_of r))
          back = trying_back k core i now r (standing_of now r) (standing_of d (i.thread_of r)) (related.regions r there) s (t ∷ tests) stands

          simple : IsSimple k s
          simple = back.simple

          own_one : Contains (own k s) t
          own_one = (subst (IsOwn k) stands (owns r)).0

      pub effect : (s p : ℕ) (e f : Effect) (es : List Effect) → standing_of now r ≡ at.Acting s (e ∷ f ∷ es) p → Followed now d r next
      effect s p e f es stands =
          effect_followed k core i rows (ticks.nested c rules core_rules) (ticks.counts c rules core_rules) stages.written_at now d
          related r s p e f es stands Told
          (image_told (access_of_assignment e.variable (assignment_of e.variable e.value))) next goes

      pub entry_test : (s : ℕ) (t u : Transition) (tests : List Transition) → standing_of now r ≡ at.Entering s (t ∷ u ∷ tests) →
          verdict now.variables t.trigger ≡ Some false → Followed now d r next
      entry_test s t u tests stands fails =
          opening_on_followed k core i rows (ticks.nested c rules core_rules) (ticks.counts c rules core_rules) stages.written_at now d
          related r s t u tests stands Told (image_told (access_of_trigger t.trigger)) next goes fails

      -- ---- strong tests

      module _ (o : ℕ) (t : Transition) (tests : List Transition) (stands : standing_of now r ≡ at.Guarding o (t ∷ tests))
          (monitor : MonitorGuards k core i o t tests (standing_of d (i.watcher_of o))) where
        pub guards : IsGuarding k core i r o (standing_of d (i.thread_of r))
        guards = guarding_back k core i now r (standing_of now r) (standing_of d (i.thread_of r)) (related.regions r there) o (t ∷ tests) stands

        pub o_there : IsState k o
        o_there = state_with_aborts k o guards.has

        pub strong_told : GuardTold k core i d r (i.watcher_of o) (access_of_trigger t.trigger)
        strong_told =
            record {
              now = now;
              related = related;
              superstate = o;
              test = t;
              others = tests;
              stands = stands;
              monitor = refl;
              ready = monitor;
              acts = refl;
            }

        pub flag : (x : ℕ) × ((i.flags_of o).strong ≡ Some x)
        flag = rows.strong_there o monitor.number t o_there monitor.first

        pub no_counter : ticks.counts c rules core_rules flag.0 ≡ false
        no_counter = stages.counters.strong_not o flag.0 flag.1

        pub last_fails : tests ≡ [] → verdict now.variables t.trigger ≡ Some false → Followed now d r next
        last_fails none fails =
            last_strong_followed k core i rows (alone_rows c rules core_rules) (ticks.nested c rules core_rules)
            (whole.core_tree c rules core_rules).children (whole.tree c rules core_rules).children now d related r o flag.0 o_there
            (whole.super_of c rules core_rules o o_there guards.has) t (stands ∙ ap (λ ts. at.Guarding o (t ∷ ts)) none)
            (subst (λ ts. MonitorGuards k core i o t ts (standing_of d (i.watcher_of o))) none monitor) guards.has flag.1
            (ticks.counts c rules core_rules) stages.written_at (strong_of c rules core_rules o flag.0 flag.1) no_counter
            (stages.strong_zero o flag.0 flag.1) Told (told_silent k core i) (λ first. strong_told) next goes fails

      pub next_strong : (o : ℕ) (t u : Transition) (tests : List Transition) → standing_of now r ≡ at.Guarding o (t ∷ u ∷ tests) →
          MonitorGuards k core i o t (u ∷ tests) (standing_of d (i.watcher_of o)) → verdict now.variables t.trigger ≡ Some false → Followed now d r next
      next_strong o t u tests stands monitor fails =
          strong.not_taken_followed k core i rows (ticks.nested c rules core_rules) (ticks.counts c rules core_rules) stages.written_at
          now d related r o (o_there o t (u ∷ tests) stands monitor) t u tests stands monitor Told (λ first. strong_told o t (u ∷ tests) stands monitor) next
          goes fails

      -- ---- weak tests

      pub weak_fails : (o : ℕ) (t : Transition) (tests : List Transition) → standing_of now r ≡ at.Within o (t ∷ tests) → Contains (own k o) t →
          is_weak t.kind ≡ true → weak.MonitorWaits k core i o t tests (standing_of d (i.watcher_of o)) → verdict now.variables t.trigger ≡ Some false →
          Followed now d r next
      weak_fails o t tests stands own_one is_weak_one monitor fails =
          weak.not_taken_followed k core i rows (ticks.nested c rules core_rules) (ticks.counts c rules core_rules) stages.written_at
          now d related r o (state_with_aborts k o has) has t is_weak_one tests stands monitor Told (told_weak k core i d r (i.watcher_of o)
          (access_of_trigger t.trigger)) next goes fails
        where
          has : has_aborts (own k o) ≡ true
          has = or_right (has_strong (own k o)) (has_weak (own k o)) (has_from (λ z. is_weak z.kind) (own k o) t own_one is_weak_one)

      -- ---- a state is entered

      module _ (p : ℕ) (lt : p < length (region_at k r).states) where
        abbrev x : ℕ
        x = state_in k r p

        held : holder k x ≡ r
        held = (rows.region r there).holds p lt

        here : IsState k x
        here = held_there k x r held there

        pub chart_first : BeginsAt r (state_at k x).entered
        chart_first = subst (λ q. BeginsAt q (state_at k x).entered) held (begins_at k x (charts_enter features.Extended c rules x here))

        core_goes_on : is_final k x ≡ false → BeginsAt (i.thread_of r) (state_at core (i.entry_of x)).entered
        core_goes_on goes_on =
            subst (λ q. BeginsAt q (state_at core (i.entry_of x)).entered) core_held
            (begins_at core (i.entry_of x) (charts_enter features.Core (expanded c) core_rules (i.entry_of x)
            (held_there core (i.entry_of x) (i.thread_of r) core_held (rows.region r there).there)))
          where
            core_held : holder core (i.entry_of x) ≡ i.thread_of r
            core_held = entry_held k core i (entry_rows c rules core_rules) now d related x here goes_on ∙ ap i.thread_of held

        core_ends : is_final k x ≡ true → BeginsAt (i.thread_of r) (state_at core (i.entry_of x)).entered
        core_ends final =
            record { first = at.Ended; others = []; are = (rows.final x final).ended ∙ ap (λ q. to (i.thread_of q) at.Ended ∷ []) held }

        pub core_first : BeginsAt (i.thread_of r) (state_at core (i.entry_of x)).entered
        core_first = by (is_final k x) refl
          where
            by : (b : Bool) → is_final k x ≡ b → BeginsAt (i.thread_of r) (state_at core (i.entry_of x)).entered
            by true final = core_ends final
            by false goes_on = core_goes_on goes_on

      pub taken_at_once : (s : ℕ) (t : Transition) (tests : List Transition) → standing_of now r ≡ at.Trying s (t ∷ tests) →
          verdict now.variables t.trigger ≡ Some true → t.effects ≡ [] → Followed now d r next
      taken_at_once s t tests stands holds none =
          subst (Followed now d r) is
          (taken_on k core i rows (ticks.nested c rules core_rules) (ticks.counts c rules core_rules) stages.written_at Told
          (told_silent k core i) stages.counters super_there law_of_entering now d related r s t tests stands none target
          (bare s back.simple) (simple_alone c rules core_rules s back.simple)
          (chart_first t.target target) (core_first t.target target) parts.free holds (image_told (access_of_trigger t.trigger)))
        where
          back : IsTrying k core i now r s (t ∷ tests) (standing_of d (i.thread_of r))
          back = trying_back k core i now r (standing_of now r) (standing_of d (i.thread_of r)) (related.regions r there) s (t ∷ tests) stands

          target : t.target < length (region_at k r).states
          target = target_of s t back.simple.there back.held (subst (IsOwn k) stands (owns r)).0

          moves : taken k r s t ≡ (state_at k (state_in k r t.target)).entered
          moves = rw (bare s back.simple, none) refl

          change : record { write = None; moves = (state_at k (state_in k r t.target)).entered } ≡ parts.change
          change =
              same_Some _ parts.change
              (sym (ap (change_of k now r) stands ∙ (tested_is k now r s t (to r (at.Trying s tests) ∷ []) true holds ∙
              ap (λ ms. Some (record { write = None; moves = ms })) moves)) ∙ parts.does)

          is : chart_enters k core i now r t.target ≡ next
          is = ap (λ w. after w now) change ∙ parts.is

      abbrev last_change : ℕ → Effect → Value → RegionChange
      last_change p e v = record { write = Some (record { variable = e.variable; value = v }); moves = (state_at k (state_in k r p)).entered }

      pub last_made : (s p : ℕ) (e : Effect) → standing_of now r ≡ at.Acting s (e ∷ []) p → Followed now d r next
      last_made s p e stands = by_value (value_of e.value now.variables) refl
        where
          back : IsActing k i r p (e ∷ []) (standing_of d (i.thread_of r))
          back = acting_back k core i now r (standing_of now r) (standing_of d (i.thread_of r)) (related.regions r there) s p (e ∷ []) stands

          does : option_and_then (effected k r s e [] p) (value_of e.value now.variables) ≡ Some parts.change
          does = sym (ap (change_of k now r) stands) ∙ parts.does

          with_value : (v : Value) → value_of e.value now.variables ≡ Some v → effected k r s e [] p v ≡ Some parts.change →
              (b : Bool) → takes_kind (option_map (λ z. z.kind) (slice_get k.variables e.variable)) (kind_of v) ≡ b → Followed now d r next
          with_value v is one false fits =
              let wrong : None ≡ Some parts.change = sym (ap (λ b. only_if b (Some (last_change p e v))) fits) ∙ one in absurd cc
          with_value v is one true fits =
              let change : last_change p e v ≡ parts.change =
              same_Some (last_change p e v) parts.change (sym (ap (λ b. only_if b (Some (last_change p e v))) fits) ∙ one) in
              subst (Followed now d r) (ap (λ w. after w now) change ∙ parts.is)
              (last_effect k core i rows (ticks.nested c rules core_rules) (ticks.counts c rules core_rules) stages.written_at Told
              (told_silent k core i) stages.counters super_there law_of_entering now d related r s p e stands
              (chart_first p back.there) (core_first p back.there) parts.free v is fits
              (image_told (access_of_assignment e.variable (assignment_of e.variable e.value))))

          by_value : (o : Option Value) → value_of e.value now.variables ≡ o → Followed now d r next
          by_value None is = let wrong : None ≡ Some parts.change = sym (ap (option_and_then (effected k r s e [] p)) is) ∙ does in absurd cc
          by_value (Some v) is =
              with_value v is (sym (ap (option_and_then (effected k r s e [] p)) is) ∙ does)
              (takes_kind (option_map (λ z. z.kind) (slice_get k.variables e.variable)) (kind_of v)) refl

      -- ---- strong tests on entry

      pub passed : (s : ℕ) (t : Transition) → standing_of now r ≡ at.Entering s (t ∷ []) → verdict now.variables t.trigger ≡ Some false → Followed now d r next
      passed s t stands fails =
          entry_passed k core i (entry_rows c rules core_rules) (λ u here. (whole.state_fits c rules core_rules u here).region.here)
          (alone c rules core_rules) (ticks.counts c rules core_rules) stages.written_at
          stages.counters.counter_joins (unflagged c rules core_rules) Told
          (λ at_now core_at_now sound pending. charts_settle c rules core_rules stages Told (told_silent k core i) at_now core_at_now sound pending) now d
          related r s t stands parts.free fails (image_told (access_of_trigger t.trigger)) next goes

      pub aborted : (s : ℕ) (t : Transition) (tests : List Transition) → standing_of now r ≡ at.Entering s (t ∷ tests) →
          verdict now.variables t.trigger ≡ Some true → Followed now d r next
      aborted s t tests stands holds = by_effects t.effects refl
        where
          back : IsEntering k core i r s (t ∷ tests) (standing_of d (i.thread_of r))
          back = entering_back k core i now r (standing_of now r) (standing_of d (i.thread_of r)) (related.regions r there) s (t ∷ tests) stands

          target : t.target < length (region_at k r).states
          target = target_of s t (whole.is_state_super c rules core_rules s back.super.0) back.held (subst (IsOwn k) stands (owns r)).1.0

          entry_bare : inside core (i.entry_of s) ≡ []
          entry_bare =
              (opening_rows c rules core_rules).entry_alone s
              (subst (λ q. is_prepared (flags_around k core i q) (own k s) ≡ true) (sym back.held) back.super.1)

          by_effects : (es : List Effect) → t.effects ≡ es → Followed now d r next
          by_effects [] none =
              entry_taken k core i rows (ticks.nested c rules core_rules) (ticks.counts c rules core_rules) stages.written_at now d related
              r s t tests stands Told (told_silent k core i) stages.counters super_there law_of_entering none target entry_bare
              (chart_first t.target target) (core_first t.target target) parts.free holds (image_told (access_of_trigger t.trigger)) next goes
          by_effects (e ∷ es) some =
              entry_followed k core i rows (ticks.nested c rules core_rules) (ticks.counts c rules core_rules) stages.written_at now d
              related r s t tests stands e es some target entry_bare Told (image_told (access_of_trigger t.trigger)) next goes holds
