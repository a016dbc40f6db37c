-- Where a region stands that was just entered, and where its thread does.
use Rattle.std.proofs.Common.{◌≡◌, ◌≢◌, ℕ, Bool, true, false, ◌||◌, Some, None, List, [], ◌∷◌, ◌++◌, map, length}
use Rattle.std.proofs.Common.{refl, sym, ap, subst, ◌∙◌}
use Rattle.scl_graph_laws.proofs.Searching.{unlike}
use Rattle.core_charts.specs.declared.region.Transition.{Transition}
use Rattle.core_charts.specs.Aborts.{has_strong, has_weak, has_aborts}
use Rattle.core_charts.specs.Tests.{is_strong, is_weak, is_join, at_once, strong_aborts, weak_aborts, terminations, first_closing_tests}
use Rattle.chart_machine.specs.declared.standing.Standing.{Standing}
use Rattle.chart_machine.specs.declared.standing.Standing.TheVariants as at
use Rattle.chart_machine.specs.declared.standing.Move.{Move}
use Rattle.chart_machine.specs.declared.table.Table.{Table}
use Rattle.chart_machine.specs.Table.{state_at}
use Rattle.chart_machine.specs.Steps.{to, state_in}
use Rattle.abort_expansion.specs.declared.flags.Flags.{Flags}
use Rattle.abort_expansion.specs.declared.places.RegionPlaces.{RegionPlaces}
use Rattle.abort_expansion.specs.Transitions.{go, led, led_by, count_down}
use Rattle.abort_expansion.specs.Superstates.{simple_transitions, stays, is_prepared, resets}
use Rattle.chart_machine_laws.specs.Tree.{around, holder}
use Rattle.abort_expansion_laws.specs.CoreRows.{own, IsState, ends, is_final, IsSuper, IsSimple}
use Rattle.abort_expansion_laws.specs.CoreRows.{joins, Images, CoreRows, flags_around, counter_over, SplitImage, simple_row}
use Rattle.abort_expansion_laws.proofs.TickStarts.{led_kept}
use Rattle.abort_expansion_laws.proofs.WalkStaying.{has_none}
use Rattle.abort_expansion_laws.proofs.EnteredAlike.{BeginsAs, begins_there, begins_counting}
use Rattle.abort_expansion_laws.proofs.StateEntry.{Entry, entry_ends, entry_tries, entry_guards, entry_opens}
use Rattle.abort_expansion_laws.proofs.FreshInside.{Fresh, Begins, NobodyIn, ElsewhereNobody, begins_closed, begins_open}
use Rattle.abort_expansion_laws.proofs.JoinsFork.{no_chosen}

-- the tests of a preparation are all made on entry
once_led_by : (places : RegionPlaces) (ts : List Transition) (last : Transition) → last.immediate ≡ true →
    at_once (map (λ t. led_by places t.trigger t) ts ++ last ∷ []) ≡ map (λ t. led_by places t.trigger t) ts ++ last ∷ []
once_led_by places [] last e = rw (e) refl
once_led_by places (t ∷ ts) last e = ap (λ zs. led_by places t.trigger t ∷ zs) (once_led_by places ts last e)

-- who has an immediate strong abort has aborts
strong_has : (all : List Transition) (t : Transition) (tests : List Transition) → at_once (strong_aborts all) ≡ t ∷ tests → has_aborts all ≡ true
strong_has all t tests e = by_strong (has_strong all) refl
  where
    by_strong : (b : Bool) → has_strong all ≡ b → (has_strong all || has_weak all) ≡ true
    by_strong true is = rw (is) refl
    by_strong false is =
        let none : strong_aborts all ≡ [] = no_chosen (λ z. is_strong z.kind) all is in
        let wrong : [] ≡ t ∷ tests = sym (ap at_once none) ∙ e in absurd cc

pub apart_with : (flags : List Flags) (all : List Transition) → has_aborts all ≡ true → stays flags all ≡ false
apart_with flags all has = rw (has) refl

pub prepared_with : (flags : List Flags) (all : List Transition) → has_aborts all ≡ true → is_prepared flags all ≡ true
prepared_with flags all has = rw (has) refl

-- region r comes to state x, and its thread to core state y
module _ (k core : Table) (i : Images) where
  pub data ComesTo (r x y : ℕ) : Type 0 where
    comes_there : y ≡ i.entry_of x → (is_final k x ≡ true → counter_over k core i (around k r) ≡ None) → ComesTo r x y
    comes_counting : (place counter : ℕ) → is_final k x ≡ true → counter_over k core i (around k r) ≡ Some counter →
        state_at core y ≡ simple_row (i.thread_of r) y (go true None (count_down counter ∷ []) place ∷ []) →
        state_in core (i.thread_of r) place ≡ i.entry_of x → ComesTo r x y

  pub begins_so : (r x y : ℕ) → BeginsAs k core i r x y → ComesTo r x y
  begins_so r x y (begins_there place there is counted) = comes_there is counted
  begins_so r x y (begins_counting place counter final counted row leads) = comes_counting place counter final counted row leads

module _ (k core : Table) (i : Images) (rows : CoreRows k core i) (n m : ℕ) (f g : ℕ → Standing) where
  abbrev flags_here : ℕ → List Flags
  flags_here q = flags_around k core i q

  pub data Sort (q : ℕ) : Type 0 where
    -- in a final state
    sort_ends : f q ≡ at.Ended → NobodyIn k n f q → NobodyIn core m g (i.thread_of q) → counter_over k core i (around k q) ≡ None →
        g (i.thread_of q) ≡ at.Ended → Sort q
    sort_counts : (first place counter : ℕ) → f q ≡ at.Ended → NobodyIn k n f q → NobodyIn core m g (i.thread_of q) →
        counter_over k core i (around k q) ≡ Some counter → (state_at core first).regions ≡ [] →
        (state_at core (state_in core (i.thread_of q) place)).entered ≡ to (i.thread_of q) at.Ended ∷ [] →
        g (i.thread_of q) ≡ at.Trying first (go true None (count_down counter ∷ []) place ∷ []) → Sort q
    sort_tries : (x : ℕ) → IsSimple k x → holder k x ≡ q → f q ≡ at.Trying x (at_once (own k x)) → NobodyIn k n f q → NobodyIn core m g (i.thread_of q) →
        g (i.thread_of q) ≡ at.Trying (i.main_of x) (at_once (simple_transitions (flags_here q) (i.places_of q) (own k x))) → Sort q
    -- in a superstate with immediate strong aborts
    sort_guards : (x fork : ℕ) (t : Transition) (tests : List Transition) → IsState k x → IsSuper k x → holder k x ≡ q →
        is_prepared (flags_here q) (own k x) ≡ true → f q ≡ at.Entering x (t ∷ tests) → NobodyIn k n f q → NobodyIn core m g (i.thread_of q) →
        state_in core (i.thread_of q) fork ≡ i.main_of x →
        g (i.thread_of q) ≡ at.Trying (i.entry_of x)
        (map (λ z. led_by (i.places_of q) z.trigger z) (t ∷ tests) ++ go true None (resets (i.flags_of x) (length (state_at k x).regions)) fork ∷ []) → Sort q
    -- in another one that is prepared
    sort_prepares : (x fork : ℕ) → IsState k x → IsSuper k x → holder k x ≡ q → stays (flags_here q) (own k x) ≡ false →
        is_prepared (flags_here q) (own k x) ≡ true → f q ≡ at.Within x (first_closing_tests (own k x)) → Fresh k n f x → ElsewhereNobody k n f q x →
        NobodyIn core m g (i.thread_of q) → state_in core (i.thread_of q) fork ≡ i.main_of x →
        g (i.thread_of q) ≡ at.Trying (i.entry_of x) (go true None (resets (i.flags_of x) (length (state_at k x).regions)) fork ∷ []) → Sort q
    -- in one whose fork is entered at once
    sort_opens : (x : ℕ) (core_tests : List Transition) → IsState k x → IsSuper k x → holder k x ≡ q → is_prepared (flags_here q) (own k x) ≡ false →
        f q ≡ at.Within x (first_closing_tests (own k x)) → Fresh k n f x → ElsewhereNobody k n f q x →
        g (i.thread_of q) ≡ at.Within (i.main_of x) core_tests → Fresh core m g (i.main_of x) → ElsewhereNobody core m g (i.thread_of q) (i.main_of x) →
        (stays (flags_here q) (own k x) ≡ true → core_tests ≡ map (led (i.places_of q)) (first_closing_tests (own k x))) →
        (stays (flags_here q) (own k x) ≡ false →
        (join : ℕ) × (state_in core (i.thread_of q) join ≡ i.behind_of x) × (core_tests ≡ joins join ∷ [])) → Sort q

  -- somebody stands there
  pub sort_present : (q : ℕ) → Sort q → f q ≢ at.Outside
  sort_present q (sort_ends now none core_none uncounted core_over) out = let wrong : at.Ended ≡ at.Outside = sym now ∙ out in absurd cc
  sort_present q (sort_counts first place counter now none core_none counted bare leads waiting) out =
      let wrong : at.Ended ≡ at.Outside = sym now ∙ out in absurd cc
  sort_present q (sort_tries x simple held stands none core_none core_stands) out =
      let wrong : at.Trying x (at_once (own k x)) ≡ at.Outside = sym stands ∙ out in absurd cc
  sort_present q (sort_guards x fork t tests here super held prepared stands none core_none leads core_stands) out =
      let wrong : at.Entering x (t ∷ tests) ≡ at.Outside = sym stands ∙ out in absurd cc
  sort_present q (sort_prepares x fork here super held apart prepared stands fresh others core_none leads core_stands) out =
      let wrong : at.Within x (first_closing_tests (own k x)) ≡ at.Outside = sym stands ∙ out in absurd cc
  sort_present q (sort_opens x core_tests here super held plain stands fresh others core_stands core_fresh core_others stay_tests split_tests) out =
      let wrong : at.Within x (first_closing_tests (own k x)) ≡ at.Outside = sym stands ∙ out in absurd cc

  module _ (x y : ℕ) (here : IsState k x) (held_core : holder core y ≡ i.thread_of (holder k x)) (comes : ComesTo k core i (holder k x) x y)
      (chart : Begins k n f x) (in_core : Begins core m g y) where
    abbrev q : ℕ
    q = holder k x

    abbrev t : ℕ
    t = i.thread_of q

    core_closed : (z : Standing) → ((u : ℕ) (tests : List Transition) → z ≢ at.Within u tests) → (state_at core y).entered ≡ to t z ∷ [] →
        (g t ≡ z) × NobodyIn core m g t
    core_closed z never e =
        subst (λ r. (g r ≡ z) × NobodyIn core m g r) held_core
        (begins_closed core m g y z in_core never (e ∙ ap (λ r. to r z ∷ []) (sym held_core)))

    -- the thread stands in what stands for the state
    not_counting : is_final k x ≡ false → y ≡ i.entry_of x
    not_counting open_ends = by_sort comes
      where
        by_sort : ComesTo k core i q x y → y ≡ i.entry_of x
        by_sort (comes_there is counted) = is
        by_sort (comes_counting place counter final counted row leads) = absurd (unlike (is_final k x) final open_ends)

    ends_now : (state_at k x).entered ≡ to q at.Ended ∷ [] → Sort q
    ends_now e = by_sort comes
      where
        final : is_final k x ≡ true
        final = ap ends e

        in_chart : (f q ≡ at.Ended) × NobodyIn k n f q
        in_chart = begins_closed k n f x at.Ended chart (λ u tests w. absurd cc) e

        by_sort : ComesTo k core i q x y → Sort q
        by_sort (comes_there is counted) =
            let ended = core_closed at.Ended (λ u tests w. absurd cc) (ap (λ v. (state_at core v).entered) is ∙ (rows.final x final).ended) in
            sort_ends in_chart.0 in_chart.1 ended.1 (counted final) ended.0
        by_sort (comes_counting place counter is counted row leads) =
            let waiting = core_closed (at.Trying y (go true None (count_down counter ∷ []) place ∷ [])) (λ u tests w. absurd cc) (ap (λ z. z.entered) row) in
            sort_counts y place counter in_chart.0 in_chart.1 waiting.1 counted (ap (λ z. z.regions) row)
            (ap (λ v. (state_at core v).entered) leads ∙ (rows.final x is).ended) waiting.0

    tries_now : (state_at k x).regions ≡ [] → (state_at k x).entered ≡ to q (at.Trying x (at_once (own k x))) ∷ [] → Sort q
    tries_now none e =
        let in_chart = begins_closed k n f x (at.Trying x (at_once (own k x))) chart (λ u tests w. absurd cc) e in
        let image = rows.simple x simple in
        let row = ap (λ v. (state_at core v).entered) (not_counting open_ends ∙ image.entry) ∙ ap (λ z. z.entered) image.row in
        let waiting = core_closed (at.Trying (i.main_of x) (at_once (simple_transitions (flags_here q) (i.places_of q) (own k x))))
        (λ u tests w. absurd cc) row in
        sort_tries x simple refl in_chart.0 in_chart.1 waiting.1 waiting.0
      where
        open_ends : is_final k x ≡ false
        open_ends = ap ends e

        simple : IsSimple k x
        simple = record { there = here; no_regions = none; not_final = open_ends }

    split_of : IsSuper k x → stays (flags_here q) (own k x) ≡ false → SplitImage k core i x
    split_of super apart = rows.split x here super apart

    guards_now : (test : Transition) (tests : List Transition) → IsSuper k x → at_once (strong_aborts (own k x)) ≡ test ∷ tests →
        (state_at k x).entered ≡ to q (at.Entering x (test ∷ tests)) ∷ [] → Sort q
    guards_now test tests super strong e =
        let in_chart = begins_closed k n f x (at.Entering x (test ∷ tests)) chart (λ u others w. absurd cc) e in
        let has = strong_has (own k x) test tests strong in
        let prepared = prepared_with (flags_here q) (own k x) has in
        let image = (split_of super (apart_with (flags_here q) (own k x) has)).prepared prepared in
        let last : Transition = go true None (resets (i.flags_of x) (length (state_at k x).regions)) image.0 in
        let row = ap (λ v. (state_at core v).entered) (not_counting open_ends) ∙ (ap (λ z. z.entered) image.2 ∙
        (ap (λ ts. to t (at.Trying (i.entry_of x) (at_once (map (λ z. led_by (i.places_of q) z.trigger z) ts ++ last ∷ []))) ∷ []) strong ∙
        ap (λ ts. to t (at.Trying (i.entry_of x) ts) ∷ []) (once_led_by (i.places_of q) (test ∷ tests) last refl))) in
        let waiting = core_closed (at.Trying (i.entry_of x) (map (λ z. led_by (i.places_of q) z.trigger z) (test ∷ tests) ++ last ∷ []))
        (λ u others w. absurd cc) row in
        sort_guards x image.0 test tests here super refl prepared in_chart.0 in_chart.1 waiting.1 image.1 waiting.0
      where
        open_ends : is_final k x ≡ false
        open_ends = ap ends e

    opens_now : IsSuper k x → at_once (strong_aborts (own k x)) ≡ [] →
        (state_at k x).entered ≡ to q (at.Within x (first_closing_tests (own k x))) ∷ (state_at k x).opened → Sort q
    opens_now super strong e = by_stay (stays (flags_here q) (own k x)) refl (is_prepared (flags_here q) (own k x)) refl
      where
        never_ends : (ms : List Move) →
            ends (to q (at.Within x (first_closing_tests (own k x))) ∷ ms) ≡ false
        never_ends [] = refl
        never_ends (z ∷ ms) = refl

        is_entry : y ≡ i.entry_of x
        is_entry = not_counting (ap ends e ∙ never_ends (state_at k x).opened)

        in_chart : (f q ≡ at.Within x (first_closing_tests (own k x))) × Fresh k n f x × ElsewhereNobody k n f q x
        in_chart = begins_open k n f x (first_closing_tests (own k x)) chart e

        opens_core : (tests : List Transition) → y ≡ i.main_of x →
            (state_at core (i.main_of x)).entered ≡ to t (at.Within (i.main_of x) tests) ∷ (state_at core (i.main_of x)).opened →
            (g t ≡ at.Within (i.main_of x) tests) × Fresh core m g (i.main_of x) × ElsewhereNobody core m g t (i.main_of x)
        opens_core tests is row =
            let held_main : holder core (i.main_of x) ≡ t = ap (holder core) (sym is) ∙ held_core in
            let all = begins_open core m g (i.main_of x) tests (subst (Begins core m g) is in_core)
            (row ∙ ap (λ r. to r (at.Within (i.main_of x) tests) ∷ (state_at core (i.main_of x)).opened) (sym held_main)) in
            (ap g (sym held_main) ∙ all.0, all.1, subst (λ r. ElsewhereNobody core m g r (i.main_of x)) held_main all.2)

        by_stay : (s : Bool) → stays (flags_here q) (own k x) ≡ s → (p : Bool) → is_prepared (flags_here q) (own k x) ≡ p → Sort q
        by_stay true stay prepared is_prep =
            let image = rows.staying x here super stay in
            let none = has_none (flags_here q) (own k x) stay in
            let weak : weak_aborts (own k x) ≡ [] = no_chosen (λ z. is_weak z.kind) (own k x) none.weak in
            let unprepared : is_prepared (flags_here q) (own k x) ≡ false = rw (none.counted, none.strong, none.weak) refl in
            let closing : first_closing_tests (own k x) ≡ terminations (own k x) = ap (λ ts. at_once ts ++ terminations (own k x)) weak in
            let core_tests : List Transition = terminations (map (led (i.places_of q)) (own k x)) in
            let all = opens_core core_tests (is_entry ∙ image.entry) (ap (λ z. z.entered) image.row) in
            sort_opens x core_tests here super refl unprepared in_chart.0 in_chart.1 in_chart.2 all.0 all.1 all.2
            (λ _. led_kept (λ z. is_join z.kind) (i.places_of q) (λ z. refl) (own k x) ∙
            ap (map (led (i.places_of q))) (sym closing))
            (λ apart. absurd (unlike (stays (flags_here q) (own k x)) stay apart))
        by_stay false apart true prepared =
            let image = (split_of super apart).prepared prepared in
            let last : Transition = go true None (resets (i.flags_of x) (length (state_at k x).regions)) image.0 in
            let row = ap (λ v. (state_at core v).entered) is_entry ∙ (ap (λ z. z.entered) image.2 ∙
            (ap (λ ts. to t (at.Trying (i.entry_of x) (at_once (map (λ z. led_by (i.places_of q) z.trigger z) ts ++ last ∷ []))) ∷ []) strong ∙
            ap (λ ts. to t (at.Trying (i.entry_of x) ts) ∷ []) (once_led_by (i.places_of q) [] last refl))) in
            let waiting = core_closed (at.Trying (i.entry_of x) (last ∷ [])) (λ u tests w. absurd cc) row in
            sort_prepares x image.0 here super refl apart prepared in_chart.0 in_chart.1 in_chart.2 waiting.1 image.1 waiting.0
        by_stay false apart false plain =
            let image = split_of super apart in
            let all = opens_core (joins image.join ∷ []) (is_entry ∙ image.plain plain) (ap (λ z. z.entered) image.row) in
            sort_opens x (joins image.join ∷ []) here super refl plain in_chart.0 in_chart.1 in_chart.2 all.0 all.1 all.2
            (λ stay. absurd (unlike (stays (flags_here q) (own k x)) stay apart)) (λ _. (image.join, image.joined, refl))

    pub sort_of : Entry k x → Sort (holder k x)
    sort_of (entry_ends e) = ends_now e
    sort_of (entry_tries none e) = tries_now none e
    sort_of (entry_guards test tests super strong e) = guards_now test tests super strong e
    sort_of (entry_opens super strong e) = opens_now super strong e
