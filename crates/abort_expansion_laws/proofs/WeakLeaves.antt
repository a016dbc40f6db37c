-- What is inside of a superstate whose weak abort is taken can leave: nobody there has work left, and each thread sees the raised flag, or is
-- behind a fork whose termination has not its turn.
use Rattle.std.proofs.Common.{◌≡◌, ◌≢◌, ℕ, ◌<◌, ◌≤◌, inl, inr, Bool, true, false, not, ◌||◌, pos, Option, Some, None, List, [], suc, ◌⊎◌}
use Rattle.std.proofs.Common.{◌∷◌, ◌++◌, length, slice_get, Contains, refl, sym, ap, subst, ◌∙◌, arith, if◌then◌else◌}
use Rattle.std.proofs.lemmas.List.{append-nil, append_assoc}
use Rattle.sc_values.specs.declared.value.Value.TheVariants as value_is
use Rattle.core_charts.specs.declared.region.Transition.{Transition}
use Rattle.core_charts.specs.Tests.{at_once, strong_aborts, weak_aborts, terminations}
use Rattle.core_charts.specs.Aborts.{has_aborts}
use Rattle.chart_machine.specs.declared.standing.Standing.{Standing}
use Rattle.chart_machine.specs.declared.standing.Standing.TheVariants as at
use Rattle.chart_machine.specs.declared.standing.Configuration.{Configuration}
use Rattle.chart_machine.specs.declared.table.Table.{Table}
use Rattle.chart_machine.specs.Table.{state_at}
use Rattle.chart_machine.specs.Turns.{standing_of, has_work, guards, is_guarded, inside}
use Rattle.chart_machine.specs.Steps.{to, state_in, verdict}
use Rattle.abort_expansion.specs.Flags.{aborts_around, weak_around}
use Rattle.abort_expansion.specs.Transitions.{is_raised, is_number, go, strong_checks, led_by, answers}
use Rattle.abort_expansion.specs.Superstates.{stays, closing, joined_or_left}
use Rattle.abort_expansion_laws.specs.Stages.{Correspondence, IsSilent}
use Rattle.abort_expansion_laws.proofs.Supplying.{silent_test, silent_idle, tests}
use Rattle.chart_machine_laws.proofs.LyingIn.{IsNested, around, holder}
use Rattle.abort_expansion_laws.proofs.TablesCorrespond.{IsThere}
use Rattle.abort_expansion_laws.proofs.MoreValues.{other_verdict}
use Rattle.abort_expansion_laws.proofs.FlagAccess.{number_access}
use Rattle.abort_expansion_laws.specs.CoreRows.{own, IsState, Images, CoreRows, flags_around, behind_transitions}
use Rattle.abort_expansion_laws.specs.Related.{front, held_back, Stands, outside, ended, left, trying, acting, entering, guarding, staying}
use Rattle.abort_expansion_laws.specs.Related.{within, behind, IsInside, guarded, open_inside, not_ended, Stores, Related}
use Rattle.abort_expansion_laws.proofs.Fronts.{front_free}
use Rattle.abort_expansion_laws.proofs.KnownVariables.{present_there}
use Rattle.abort_expansion_laws.proofs.StartingRegions.{CounterRows}
use Rattle.abort_expansion_laws.proofs.OpensFork.{OpeningRows}
use Rattle.abort_expansion_laws.proofs.TickStarts.{StartRows}
use Rattle.abort_expansion_laws.proofs.EnteringSimple.{weak_once}
use Rattle.abort_expansion_laws.proofs.MayLeave.{leads_out, fails_before, out, over, tries}
use Rattle.abort_expansion_laws.proofs.InsideLeaves.{AloneRows, fork_leaves, all_may_leave}
use Rattle.abort_expansion_laws.proofs.SplitTests.{continuation_tests}
use Rattle.abort_expansion_laws.proofs.InsideAround.{one_in_other}
use Rattle.abort_expansion_laws.proofs.StageReached.{holds_other}
use Rattle.abort_expansion_laws.proofs.WeakSeen as seen
use Rattle.abort_expansion_laws.proofs.MonitorsLeave as monitors
use Rattle.abort_expansion_laws.proofs.WeakSeen.{some_still_in}
use Rattle.abort_expansion_laws.proofs.Unchanged.{none_among, none_are}
use Rattle.abort_expansion_laws.proofs.NumberedRegions.{super_is_state}

module _ (k core : Table) (i : Images) (rows : CoreRows k core i) (lone : AloneRows k core i) (tree : IsNested k)
    (deep : (q s : ℕ) → Contains (around core q) s → holder core s < q) (alone : (v : ℕ) → (state_at core v).regions ≡ [] → inside core v ≡ [])
    (core_children : (s r : ℕ) → Contains (state_at core s).regions r → around core r ≡ s ∷ around core (holder core s))
    (children : (s r : ℕ) → Contains (state_at k s).regions r → around k r ≡ s ∷ around k (holder k s))
    (counts : ℕ → Bool) (written_at : ℕ → ℕ) (counters : CounterRows k core i rows counts written_at) (opening : OpeningRows k core i rows)
    (start_rows : StartRows k core i rows) (written_low : (x : ℕ) → written_at x < 3)
    (strong_at : (s x : ℕ) → (i.flags_of s).strong ≡ Some x → written_at x ≡ 0)
    (c d : Configuration) (related : Related k core i c d) (r o x : ℕ) (flag : (i.flags_of o).weak ≡ Some x) (held : holder k o ≡ r)
    (early : (s y : ℕ) → Contains (around k r) s → (i.flags_of s).weak ≡ Some y → written_at y ≡ 0)
    (o_there : IsState k o) (open_tests : List Transition) (stands : standing_of c r ≡ at.Within o open_tests)
    (idle : (q : ℕ) → IsThere k q → Contains (around k q) o → has_work k c (standing_of c q) ≡ false)
    (first : Configuration) (raised : verdict first.variables (Some (is_raised x)) ≡ Some true)
    (values : (y : ℕ) → y ≢ x → slice_get first.variables y ≡ slice_get d.variables y)
    (same : (g : ℕ) → g ≢ i.watcher_of o → standing_of first g ≡ standing_of d g) (free : is_guarded k c (around k r) ≡ false) where
  abbrev corr : Correspondence
  corr = seen.corr k core i rows lone tree deep alone core_children children counts written_at counters opening start_rows written_low strong_at c d
      related r o x flag held early
      o_there open_tests stands idle first raised values same

  abbrev has : has_aborts (own k o) ≡ true
  has = seen.has k core i rows lone tree deep alone core_children children counts written_at counters opening start_rows written_low strong_at c d related
      r o x flag held early
      o_there open_tests stands idle first raised values same

  abbrev Leaves : ℕ → Standing → Type 0
  Leaves = seen.Leaves k core i rows lone tree deep alone core_children children counts written_at counters opening start_rows written_low strong_at c d
      related r o x flag held early
      o_there open_tests stands idle first raised values same

  abbrev LeavesTests : ℕ → List Transition → Type 0
  LeavesTests = seen.LeavesTests k core i rows lone tree deep alone core_children children counts written_at counters opening start_rows written_low
      strong_at c d related r o x flag held early
      o_there open_tests stands idle first raised values same

  abbrev weak_here : (q : ℕ) → Contains (around k q) o → weak_around (flags_around k core i q) ≡ true
  weak_here = seen.weak_here k core i rows lone tree deep alone core_children children counts written_at counters opening start_rows written_low strong_at
      c d related r o x flag held early
      o_there open_tests stands idle first raised values same

  abbrev aborts_here : (q : ℕ) → Contains (around k q) o → aborts_around (flags_around k core i q) ≡ true
  aborts_here = seen.aborts_here k core i rows lone tree deep alone core_children children counts written_at counters opening start_rows written_low
      strong_at c d related r o x flag held early
      o_there open_tests stands idle first raised values same

  abbrev ends_there : (q : ℕ) → IsThere k q → Contains (around k q) o →
      (state_at core (state_in core (i.thread_of q) (i.places_of q).left)).entered ≡ to (i.thread_of q) at.Ended ∷ []
  ends_there = seen.ends_there k core i rows lone tree deep alone core_children children counts written_at counters opening start_rows written_low
      strong_at c d related r o x flag held early
      o_there open_tests stands idle first raised values same

  abbrev held_leaves : (q : ℕ) → IsThere k q → Contains (around k q) o → LeavesTests q (held_back k core i q)
  held_leaves = seen.held_leaves k core i rows lone tree deep alone core_children children counts written_at counters opening start_rows written_low
      strong_at c d related r o x flag held early
      o_there open_tests stands idle first raised values same

  abbrev strong_fails : (q : ℕ) → IsThere k q → standing_of c q ≢ at.Outside → Contains (around k q) o → (rest : List Transition) → LeavesTests q rest →
      LeavesTests q (strong_checks true (i.places_of q).left (flags_around k core i q) ++ rest)
  strong_fails = seen.strong_fails k core i rows lone tree deep alone core_children children counts written_at counters opening start_rows written_low
      strong_at c d related r o x flag held early
      o_there open_tests stands idle first raised values same

  abbrev works_not : (q : ℕ) → IsThere k q → Contains (around k q) o → (w : Standing) → standing_of c q ≡ w → has_work k c w ≡ true → ⊥
  works_not = seen.works_not k core i rows lone tree deep alone core_children children counts written_at counters opening start_rows written_low strong_at
      c d related r o x flag held early
      o_there open_tests stands idle first raised values same

  -- ---- nobody guards

  not_guarded : (q : ℕ) → IsThere k q → Contains (around k q) o → standing_of c q ≢ at.Outside → is_guarded k c (around k q) ≡ false
  not_guarded q there in_o present =
      none_are (λ s. guards (standing_of c (holder k s))) (around k q)
      (λ s h on. by_inside s h (standing_of c (holder k s)) refl (related.enclosed q s there present h) on)
    where
      by_inside : (s : ℕ) → Contains (around k q) s → (w : Standing) → standing_of c (holder k s) ≡ w → IsInside k core i s w → guards w ≡ true → ⊥
      by_inside s h _ is (open_inside tests) on = absurd cc
      by_inside s h _ is (guarded tests) on =
          by_place (one_in_other k tree (around k q) q s o refl h in_o)
        where
          holder_is : IsThere k (holder k s)
          holder_is = present_there k core i c d related (holder k s) (λ e. let wrong : at.Guarding s tests ≡ at.Outside = sym is ∙ e in absurd cc)

          by_place : (s ≡ o) ⊎ (Contains (around k (holder k s)) o ⊎ Contains (around k (holder k o)) s) → ⊥
          by_place (inl same_one) =
              let wrong : at.Guarding s tests ≡ at.Within o open_tests =
              sym is ∙ (ap (λ v. standing_of c (holder k v)) same_one ∙ (ap (standing_of c) held ∙ stands)) in
              absurd cc
          by_place (inr (inl deeper)) = let wrong : true ≡ false = sym (ap (has_work k c) is) ∙ idle (holder k s) holder_is deeper in absurd cc
          by_place (inr (inr outer)) =
              let wrong : true ≡ false =
              sym (ap guards is)
              ∙ none_among (λ v. guards (standing_of c (holder k v))) (around k r) s free (subst (λ p. Contains (around k p) s) held outer) in
              absurd cc

  -- ---- the continuation of a superstate inside

  module _ (q s : ℕ) (there : IsThere k q) (in_o : Contains (around k q) o) (s_there : IsState k s) (s_held : holder k s ≡ q) (tests : List Transition)
      (q_stands : standing_of c q ≡ at.Within s tests) where
    s_in_o : Contains (around k (holder k s)) o
    s_in_o = subst (λ p. Contains (around k p) o) (sym s_held) in_o

    leaves_last : LeavesTests q (go true None [] (i.places_of q).left ∷ [])
    leaves_last =
        leads_out (go true None [] (i.places_of q).left) [] refl refl (ends_there q there in_o) None (inl refl) (silent_idle corr (i.thread_of q) None)

    inside_s : IsInside k core i s (standing_of c (holder k s))
    inside_s = subst (λ p. IsInside k core i s (standing_of c p)) (sym s_held) (subst (IsInside k core i s) (sym q_stands) (open_inside tests))

    counted : (y : ℕ) → (i.flags_of s).counter ≡ Some y → (t : Transition) (more : List Transition) → terminations (own k s) ≡ t ∷ more →
        LeavesTests q (at_once (joined_or_left (i.places_of q) (Some y) t))
    counted y counter t more some =
        fails_before (led_by (i.places_of q) (Some (is_number y 0)) t) (go true None [] (i.places_of q).left ∷ [])
        (other_verdict y (not_ended k core i c s) 0 first.variables (values y (λ e. differs
        (counters.counter_of s y counter) e) ∙ stored) still) None (inl refl)
        (subst (IsSilent corr (i.thread_of q) None) (sym (number_access y 0))
        (silent_test corr (i.thread_of q) None y (rows.counter_added s y counter) (inl own_home))) leaves_last
      where
        stored : slice_get d.variables y ≡ Some (value_is.Int (pos (not_ended k core i c s)))
        stored = subst (λ f. Stores k core i d.variables f (not_ended k core i c s)) counter (related.flags s s_there inside_s).counter

        still : not_ended k core i c s ≢ 0
        still =
            some_still_in k core i c s tests (related.closes_last s tests (ap (standing_of c) s_held ∙ q_stands)) t more some
            (sym (ap (has_work k c) q_stands) ∙ idle q there in_o)

        own_home : i.thread_of q ≡ corr.home y
        own_home = sym (ap (λ v. holder core (i.main_of v)) (counters.counter_of s y counter) ∙ (rows.held s ∙ ap i.thread_of s_held))

        differs : rows.of_flag y ≡ s → y ≢ x
        differs owner e =
            let same_one : s ≡ o = sym owner ∙ (ap rows.of_flag e ∙ (opening.flag_of o x (inr (inl flag))).0) in
            holds_other k tree (holder k o) o (subst (λ v. Contains (around k (holder k v)) o) same_one s_in_o) refl

    closing_leaves : LeavesTests q (at_once (closing (flags_around k core i q) (i.flags_of s) (i.places_of q) (terminations (own k s))))
    closing_leaves = by_ends (terminations (own k s)) refl
      where
        by_counter : (f : Option ℕ) → (i.flags_of s).counter ≡ f → (t : Transition) (more : List Transition) → terminations (own k s) ≡ t ∷ more →
            LeavesTests q (at_once (joined_or_left (i.places_of q) f t))
        by_counter None e t more some = leaves_last
        by_counter (Some y) e t more some = counted y e t more some

        by_ends : (ts : List Transition) → terminations (own k s) ≡ ts →
            LeavesTests q (at_once (closing (flags_around k core i q) (i.flags_of s) (i.places_of q) ts))
        by_ends [] e =
            subst (LeavesTests q) (sym (weak_once (i.places_of q).left (flags_around k core i q))) (held_leaves q there in_o)
        by_ends (t ∷ more) e =
            subst (λ b. LeavesTests q (at_once (if b then joined_or_left (i.places_of q) (i.flags_of s).counter t else led_by (i.places_of q) None t ∷ [])))
            (sym (weak_here q in_o)) (by_counter (i.flags_of s).counter refl t more e)

    -- no abort was raised
    own_home : (y : ℕ) → rows.of_flag y ≡ s → i.thread_of q ≡ corr.home y
    own_home y owner = sym (ap (λ v. holder core (i.main_of v)) owner ∙ (rows.held s ∙ ap i.thread_of s_held))

    answers_fail : (f : Option ℕ) (aborts : List Transition) (m : ℕ) → 0 < m →
        ((y : ℕ) → f ≡ Some y → (slice_get first.variables y ≡ Some (value_is.Int (pos 0))) × ((length k.variables ≤ y) × (rows.of_flag y ≡ s))) →
        (rest : List Transition) → LeavesTests q rest → LeavesTests q (answers (i.places_of q) f m aborts ++ rest)
    answers_fail None [] m le low rest then_leaves = then_leaves
    answers_fail None (t ∷ aborts) m le low rest then_leaves = then_leaves
    answers_fail (Some y) [] m le low rest then_leaves = then_leaves
    answers_fail (Some y) (t ∷ aborts) m le low rest then_leaves =
        let facts = low y refl in
        fails_before (led_by (i.places_of q) (Some (is_number y m)) t) (answers (i.places_of q) (Some y) (suc m) aborts ++ rest)
        (other_verdict y 0 m first.variables facts.0 (λ e. absurd (omega (e, le, arith)))) None (inl refl)
        (subst (IsSilent corr (i.thread_of q) None) (sym (number_access y m))
        (silent_test corr (i.thread_of q) None y facts.1.0 (inl (own_home y facts.1.1))))
        (answers_fail (Some y) aborts (suc m) (omega (le, arith)) low rest then_leaves)

    differs_from : (y : ℕ) → rows.of_flag y ≡ s → y ≢ x
    differs_from y owner e =
        let same_one : s ≡ o = sym owner ∙ (ap rows.of_flag e ∙ (opening.flag_of o x (inr (inl flag))).0) in
        holds_other k tree (holder k o) o (subst (λ v. Contains (around k (holder k v)) o) same_one s_in_o) refl

    strong_low : (y : ℕ) → (i.flags_of s).strong ≡ Some y →
        (slice_get first.variables y ≡ Some (value_is.Int (pos 0))) × ((length k.variables ≤ y) × (rows.of_flag y ≡ s))
    strong_low y e =
        let owner : rows.of_flag y ≡ s = (opening.flag_of s y (inl e)).0 in (
          values y (differs_from y owner) ∙ subst (λ f. Stores k core i d.variables f 0) e (related.flags s s_there inside_s).strong,
          (rows.strong_added s y e, owner),
        )

    weak_low : (y : ℕ) → (i.flags_of s).weak ≡ Some y →
        (slice_get first.variables y ≡ Some (value_is.Int (pos 0))) × ((length k.variables ≤ y) × (rows.of_flag y ≡ s))
    weak_low y e =
        let owner : rows.of_flag y ≡ s = (opening.flag_of s y (inr (inl e))).0 in (
          values y (differs_from y owner) ∙ subst (λ f. Stores k core i d.variables f 0) e (related.flags s s_there inside_s).weak,
          (rows.weak_added s y e, owner),
        )

    pub continuation_leaves : LeavesTests q (at_once (behind_transitions k core i q s))
    continuation_leaves =
        subst (LeavesTests q) (sym (continuation_tests k core i q s))
        (strong_fails q there (λ e. let wrong : at.Within s tests ≡ at.Outside = sym q_stands ∙ e in absurd cc) in_o _
        (subst (LeavesTests q) (sym (append_assoc strong weak last))
        (answers_fail (i.flags_of s).strong (strong_aborts (own k s)) 1 (omega arith) strong_low (weak ++ last)
        (answers_fail (i.flags_of s).weak (weak_aborts (own k s)) 1 (omega arith) weak_low last closing_leaves))))
      where
        strong : List Transition
        strong = answers (i.places_of q) (i.flags_of s).strong 1 (strong_aborts (own k s))

        weak : List Transition
        weak = answers (i.places_of q) (i.flags_of s).weak 1 (weak_aborts (own k s))

        last : List Transition
        last = at_once (closing (flags_around k core i q) (i.flags_of s) (i.places_of q) (terminations (own k s)))

  -- ---- each thread inside

  never_stays : (q s : ℕ) → Contains (around k q) o → stays (flags_around k core i q) (own k s) ≡ true → ⊥
  never_stays q s in_o e = by_aborts (has_aborts (own k s)) (aborts_around (flags_around k core i q)) (aborts_here q in_o) e
    where
      by_aborts : (a b : Bool) → b ≡ true → not (a || b) ≡ true → ⊥
      by_aborts true b e f = absurd cc
      by_aborts false true e f = absurd cc
      by_aborts false false e f = absurd cc

  only_held : (q u : ℕ) (b : Bool) → IsThere k q → Contains (around k q) o → standing_of c q ≢ at.Outside → inside core u ≡ [] →
      Leaves (i.thread_of q) (at.Trying u (front k core i b c q ++ held_back k core i q))
  only_held q u b there in_o present alone =
      let not_around : is_guarded k c (around k q) ≡ false = not_guarded q there in_o present in
      let none : front k core i b c q ≡ [] = front_free k core i c q not_around b in
      let all : front k core i b c q ++ held_back k core i q ≡ held_back k core i q = ap (λ zs. zs ++ held_back k core i q) none in
      subst (λ zs. Leaves (i.thread_of q) (at.Trying u zs)) (sym all) (tries u (held_back k core i q) alone (held_leaves q there in_o))

  by_stands : (q : ℕ) → IsThere k q → Contains (around k q) o → (w y : Standing) → Stands k core i c q w y → standing_of c q ≡ w → Leaves (i.thread_of q) y
  by_stands q there in_o _ _ outside is = out
  by_stands q there in_o _ _ (ended inner) is = over
  by_stands q there in_o _ _ (left s ss e over_it) is = out
  by_stands q there in_o _ _ (trying s [] simple its) is =
      subst (λ zs. Leaves (i.thread_of q) (at.Trying (i.main_of s) (zs ++ held_back k core i q))) (sym (append-nil (front k core i false c q)))
      (only_held q (i.main_of s) false there in_o (λ e. let wrong : at.Trying s [] ≡ at.Outside = sym is ∙ e in absurd cc) (lone.simple_alone s simple))
  by_stands q there in_o _ _ (trying s (t ∷ tests) simple its) is = absurd (works_not q there in_o (at.Trying s (t ∷ tests)) is refl)
  by_stands q there in_o _ _ (acting s u p g effects lt) is = absurd (works_not q there in_o (at.Acting s (g ∷ effects) p) is refl)
  by_stands q there in_o _ _ (entering s fork t tests super its leads) is = absurd (works_not q there in_o (at.Entering s (t ∷ tests)) is refl)
  by_stands q there in_o _ _ (guarding s join t tests has_some its leads) is = absurd (works_not q there in_o (at.Guarding s (t ∷ tests)) is refl)
  by_stands q there in_o _ _ (staying s tests super its stay) is = absurd (never_stays q s in_o stay)
  by_stands q there in_o _ _ (within s join tests super its stays_not open_still leads) is =
      fork_leaves k core i rows lone tree core_children children o has c d related corr (i.thread_of r) 3 first same o_there q s join in_o
      (subst (IsInside k core i s) (sym is) (open_inside tests)) super its
      stays_not open_still leads (continuation_leaves q s there in_o (super_is_state k s super) its tests is)
  by_stands q there in_o _ _ (behind s tests super its over_it) is =
      only_held q (i.behind_of s) true there in_o (λ e. let wrong : at.Within s tests ≡ at.Outside = sym is ∙ e in absurd cc) (lone.behind_alone s)

  pub idle_may_leave : standing_of first (i.watcher_of o) ≡ at.Ended → (t : ℕ) → Contains (around core t) (i.main_of o) → Leaves t (standing_of first t)
  idle_may_leave =
      all_may_leave k core i rows lone tree core_children children o has c d related corr (i.thread_of r) 3 first same o_there
      (λ u u_there some in_o. monitors.monitor_leaves k core i rows lone tree deep alone core_children children counts written_at counters opening
      start_rows written_low strong_at c d related r o x flag held early o_there open_tests stands idle first raised values same u u_there some in_o
      (standing_of c (holder k u)) (standing_of d (i.watcher_of u)) refl
      (related.watchers u u_there some))
      (λ q there in_o. by_stands q there in_o (standing_of c q) (standing_of d (i.thread_of q)) (related.regions q there) refl)
