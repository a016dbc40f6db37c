-- What is known of the looks of a core chart: they stand last among the transitions of their states, and nobody else reads the weak flags that they look at
-- but the thread of the region that holds their superstate.
use Rattle.std.proofs.Common.{◌≡◌, ◌≢◌, ℕ, zero, suc, ◌+◌, ◌<◌, inl, inr, ⊎_elim, Bool, true, false, not, ◌||◌, ◌&&◌, nat_eq, eqb-true}
use Rattle.std.proofs.Common.{if◌then◌else◌, List, [], ◌∷◌, ◌++◌, length, Contains, refl, sym, ap, subst, ◌∙◌, arith}
use Rattle.std.specs.Prelude.{reverse}
use Rattle.std.proofs.lemmas.Bool.{or_parts, cases_lt, and_parts, not-true}
use Rattle.std.proofs.lemmas.List.{append-nil}
use Rattle.sc_text.proofs.EachItem.{Each, each_append, each_at, each_more}
use Rattle.sc_values.specs.Access.{Reads}
use Rattle.sc_values.specs.Assignment.{assignment_of, access_of_assignment}
use Rattle.scl_graph_laws.proofs.Targets.{same_number}
use Rattle.core_charts.specs.declared.features.Features.TheVariants as features
use Rattle.core_charts.specs.declared.region.Effect.{Effect}
use Rattle.core_charts.specs.declared.region.Transition.{Transition}
use Rattle.core_charts.specs.Aborts.{has_aborts}
use Rattle.core_charts.specs.Chart.{Chart}
use Rattle.core_charts.specs.Rules.{IsChart}
use Rattle.core_charts.specs.Tests.{is_join, strong_aborts, weak_aborts}
use Rattle.chart_machine.specs.declared.standing.Standing.TheVariants as at
use Rattle.chart_machine.specs.declared.table.StateRow.{StateRow}
use Rattle.chart_machine.specs.declared.table.Table.{Table}
use Rattle.chart_machine.specs.Table.{table, state_at}
use Rattle.chart_machine.specs.Steps.{to, state_in}
use Rattle.chart_machine.proofs.Outside.{within_or_past}
use Rattle.chart_machine_laws.specs.Tree.{around, holder}
use Rattle.chart_machine_laws.proofs.LyingIn.{none_in, tail_in}
use Rattle.tick_laws.proofs.Lists.{get_contains, true_both}
use Rattle.abort_expansion.specs.declared.flags.Flags.{Flags}
use Rattle.abort_expansion.specs.Expansion.{expanded}
use Rattle.abort_expansion.specs.Flags.{aborts_around, has_join}
use Rattle.abort_expansion.specs.Superstates.{stays, is_prepared, all_ended}
use Rattle.abort_expansion.specs.Transitions.{strong_checks, raising}
use Rattle.abort_expansion_laws.specs.CoreRows.{own, is_final, IsState, IsSuper, Images, CoreRows, WatcherImage, flags_around}
use Rattle.abort_expansion_laws.proofs.RowsOfCharts as whole
use Rattle.abort_expansion_laws.proofs.TicksOfCharts as ticks
use Rattle.abort_expansion_laws.proofs.TickStarts.{some_kept}
use Rattle.abort_expansion_laws.proofs.Walked.{CoreSort, for_simple, for_super, for_entry, for_behind, for_watching, for_start, for_nothing}
use Rattle.abort_expansion_laws.proofs.WalkedWhole.{world}
use Rattle.abort_expansion_laws.proofs.YetToLook.{in_reverse}
use Rattle.abort_expansion_laws.proofs.QuietBegins.{no_tests_past}
use Rattle.preemption_laws.specs.Looks.{Looks, is_empty, looks_among, checks_of, monitor_checks, waits_itself, waits_behind}
use Rattle.preemption_laws.proofs.LooksFound.{IsFor, Match, by_main, by_behind, by_watching, weak_numbers, main_for, behind_for, behind_tame}
use Rattle.preemption_laws.proofs.LooksFound.{fork_tame, preparation_tame, are_checks, in_weak, in_thread, region_here}
use Rattle.preemption_laws.proofs.QuietSteps.{looks}
use Rattle.preemption_laws.proofs.TameLists.{IsPlain, none_strong, none_weak, strong_checks_tame, raises_strong, raises_weak, ended_tame, looks_mild}
use Rattle.preemption_laws.proofs.TameLists.{led_own, start_tame}
use Rattle.preemption_laws.proofs.TameTransitions.{IsWeak, AtHome, Mild, Tame, TameEffect, owner_of_weak}

pub each_among : {A : Type 0} (P : A → Type 0) (xs : List A) → Each P xs → (x : A) → Contains xs x → P x
each_among P xs each x h = let found = get_contains xs x h in each_at P xs each found.0 x found.1

module _ (k core : Table) (i : Images) where
  some_empty : (xs : List ℕ) → xs ≢ [] → is_empty k core i xs ≡ false
  some_empty [] some = absurd (some refl)
  some_empty (x ∷ xs) some = refl

  none_empty : (xs : List ℕ) → is_empty k core i xs ≡ true → xs ≡ []
  none_empty [] e = refl
  none_empty (x ∷ xs) e = absurd cc

  not_empty : (xs : List ℕ) → not (is_empty k core i xs) ≡ true → xs ≢ []
  not_empty [] e none = absurd cc
  not_empty (x ∷ xs) e none = absurd cc

module _ (c : Chart) (rules : IsChart features.Extended c) (core_rules : IsChart features.Core (expanded c)) where
  abbrev k : Table
  k = table c

  abbrev core : Table
  core = table (expanded c)

  abbrev i : Images
  i = ticks.i c rules core_rules

  abbrev rows : CoreRows k core i
  rows = ticks.rows c rules core_rules

  abbrev flags_here : ℕ → List Flags
  flags_here r = flags_around k core i r

  abbrev Good : ℕ → Transition → Type 0
  Good n t = Tame c rules core_rules n t

  abbrev Gentle : ℕ → Transition → Type 0
  Gentle n t = Mild c rules core_rules n t

  abbrev For : ℕ → List Transition → Type 0
  For n ts = IsFor c rules core_rules n ts

  abbrev Matches : ℕ → ℕ → List Transition → Type 0
  Matches n s ts = Match c rules core_rules n s ts

  -- ---- a monitor's state

  watching_for : (s : ℕ) → IsState k s → has_aborts (own k s) ≡ true → For (i.watching_of s) (monitor_checks k core i s)
  watching_for s here has =
      record {
        left = 1;
        seen = weak_numbers c rules core_rules around_it;
        are = are_checks c rules core_rules 1 around_it;
        others = checks ++ strong_ones ++ weak_ones ++ all_ended (i.flags_of s).counter;
        last = ap (λ (z : StateRow). z.transitions) image.row;
        tame =
            each_append (Good n) (checks ++ strong_ones ++ weak_ones) (all_ended (i.flags_of s).counter)
            (each_append (Good n) (checks ++ strong_ones) weak_ones
            (each_append (Good n) checks strong_ones (strong_checks_tame c rules core_rules n false 1 around_it) (raises_strong c rules core_rules n s))
            (raises_weak c rules core_rules n s)) (ended_tame c rules core_rules n s);
        mild = looks_mild c rules core_rules n true 1 (flags_here (holder k s));
        bare = λ x h. ap (λ (z : StateRow). z.regions) image.row;
        ends = λ x h.
            subst (λ t. (state_at core (state_in core t 1)).entered ≡ to t at.Ended ∷ []) (sym held)
            (ap (λ z. (state_at core z).entered) image.ended ∙ image.watched);
        inside = λ x h.
            let u = in_weak c rules core_rules around_it x h in
            let inner : Contains (around k (holder k s)) u.0 = in_reverse (around k (holder k s)) u.0 u.1 in (
              u.0,
              whole.super_there c rules core_rules (holder k s) u.0 inner,
              u.2,
              subst (λ zs. Contains zs (i.main_of u.0)) (sym (ap (around core) held ∙ image.encloses))
                  (tail_in (i.main_of s) (i.main_of u.0) (around core (i.thread_of (holder k s)))
                  (in_thread c rules core_rules (i.main_of s) s here (rows.held s) u.0 inner)),
            );
      }
    where
      n : ℕ
      n = i.watching_of s

      around_it : List ℕ
      around_it = reverse (around k (holder k s))

      image : WatcherImage k core i s
      image = rows.watcher s here has

      held : holder core (i.watching_of s) ≡ i.watcher_of s
      held = ap (λ (z : StateRow). z.holder) image.row

      checks : List Transition
      checks = strong_checks false 1 (flags_here (holder k s))

      strong_ones : List Transition
      strong_ones = raising (λ t. false) 1 (i.flags_of s).strong 1 (strong_aborts (own k s))

      weak_ones : List Transition
      weak_ones = raising (λ t. t.immediate) 1 (i.flags_of s).weak 1 (weak_aborts (own k s))

  -- ---- of which state the looks are, if there are some

  data Result (n : ℕ) : ℕ → List Transition → Type 0 where
    found : (states s : ℕ) (ts : List Transition) → s < states → Matches n s ts → Result n states ts
    missed : (states : ℕ) → ((s : ℕ) (ts : List Transition) → s < states → Matches n s ts → ⊥) → Result n states []

  further : (n states : ℕ) (ts : List Transition) → ((others : List Transition) → Matches n states others → ⊥) → Result n states ts →
      Result n (suc states) ts
  further n _ _ none (found states s ts lt m) = found (suc states) s ts (omega (lt, arith)) m
  further n _ _ none (missed states never) =
      missed (suc states) (λ s ts lt m.
      ⊎_elim (λ below. never s ts below m)
      (λ past. let same : s ≡ states = omega (lt, past, arith) in none ts (subst (λ v. Matches n v ts) same m)) (cases_lt s states))

  no_match : (n s : ℕ) → (nat_eq n (i.main_of s) && waits_itself k core i s) ≡ false → (nat_eq n (i.behind_of s) && waits_behind k core i s) ≡ false →
      (nat_eq n (i.watching_of s) && has_aborts (own k s)) ≡ false → (ts : List Transition) → Matches n s ts → ⊥
  no_match n s one two three _ (by_main is waits) =
      let wrong : true ≡ false =
      sym (true_both (nat_eq n (i.main_of s)) (waits_itself k core i s) (ap (nat_eq n) (sym is) ∙ same_number n) waits) ∙ one in absurd cc
  no_match n s one two three _ (by_behind is waits) =
      let wrong : true ≡ false =
      sym (true_both (nat_eq n (i.behind_of s)) (waits_behind k core i s) (ap (nat_eq n) (sym is) ∙ same_number n) waits) ∙ two in absurd cc
  no_match n s one two three _ (by_watching is has) =
      let wrong : true ≡ false =
      sym (true_both (nat_eq n (i.watching_of s)) (has_aborts (own k s)) (ap (nat_eq n) (sym is) ∙ same_number n) has) ∙ three in absurd cc

  result : (n states : ℕ) → Result n states (looks_among k core i states n)
  result n zero = missed zero (λ s ts lt m. absurd (omega (lt, arith)))
  result n (suc s) =
      by (nat_eq n (i.main_of s) && waits_itself k core i s) refl (nat_eq n (i.behind_of s) && waits_behind k core i s) refl
      (nat_eq n (i.watching_of s) && has_aborts (own k s)) refl (result n s)
    where
      by : (a : Bool) → (nat_eq n (i.main_of s) && waits_itself k core i s) ≡ a → (b : Bool) →
          (nat_eq n (i.behind_of s) && waits_behind k core i s) ≡ b → (d : Bool) → (nat_eq n (i.watching_of s) && has_aborts (own k s)) ≡ d →
          Result n s (looks_among k core i s n) →
          Result n (suc s)
          (if a
          then checks_of k core i (holder k s)
          else (if b then checks_of k core i (holder k s) else (if d then monitor_checks k core i s else looks_among k core i s n)))
      by true is b e d f rest =
          let both = and_parts (nat_eq n (i.main_of s)) (waits_itself k core i s) is in
          found (suc s) s (checks_of k core i (holder k s)) (omega arith) (by_main (eqb-true n (i.main_of s) both.0) both.1)
      by false is true e d f rest =
          let both = and_parts (nat_eq n (i.behind_of s)) (waits_behind k core i s) e in
          found (suc s) s (checks_of k core i (holder k s)) (omega arith) (by_behind (eqb-true n (i.behind_of s) both.0) both.1)
      by false is false e true f rest =
          let both = and_parts (nat_eq n (i.watching_of s)) (has_aborts (own k s)) f in
          found (suc s) s (monitor_checks k core i s) (omega arith) (by_watching (eqb-true n (i.watching_of s) both.0) both.1)
      by false is false e false f rest = further n s (looks_among k core i s n) (λ others m. no_match n s is e f others m) rest

  -- ---- where there are none

  main_tame : (s : ℕ) → IsState k s → IsSuper k s → Each (Good (i.main_of s)) (own core (i.main_of s))
  main_tame s here super = by (stays (flags_here (holder k s)) (own k s)) refl
    where
      by : (b : Bool) → stays (flags_here (holder k s)) (own k s) ≡ b → Each (Good (i.main_of s)) (own core (i.main_of s))
      by true stay =
          subst (Each (Good (i.main_of s))) (sym (ap (λ (z : StateRow). z.transitions) (rows.staying s here super stay).row))
          (led_own c rules core_rules (i.main_of s) (holder k s) (region_here c rules core_rules s here) s
          (or_parts (has_aborts (own k s)) (aborts_around (flags_here (holder k s)))
          (not-true (has_aborts (own k s) || aborts_around (flags_here (holder k s))) stay)).0)
      by false apart = fork_tame c rules core_rules s here super apart

  entry_too : (s : ℕ) → IsState k s → IsSuper k s → Each (Good (i.entry_of s)) (own core (i.entry_of s))
  entry_too s here super = by (stays (flags_here (holder k s)) (own k s)) refl
    where
      as_main : i.entry_of s ≡ i.main_of s → Each (Good (i.entry_of s)) (own core (i.entry_of s))
      as_main same = subst (λ z. Each (Good z) (own core z)) (sym same) (main_tame s here super)

      by_prepared : stays (flags_here (holder k s)) (own k s) ≡ false → (b : Bool) → is_prepared (flags_here (holder k s)) (own k s) ≡ b →
          Each (Good (i.entry_of s)) (own core (i.entry_of s))
      by_prepared apart true some = preparation_tame c rules core_rules s here super apart some
      by_prepared apart false plain = as_main ((rows.split s here super apart).plain plain)

      by : (b : Bool) → stays (flags_here (holder k s)) (own k s) ≡ b → Each (Good (i.entry_of s)) (own core (i.entry_of s))
      by true stay = as_main (rows.staying s here super stay).entry
      by false apart = by_prepared apart (is_prepared (flags_here (holder k s)) (own k s)) refl

  module _ (n : ℕ) (lt : n < length core.states) (none : (s : ℕ) (ts : List Transition) → s < length k.states → Matches n s ts → ⊥) where
    behind_too : (s : ℕ) → IsState k s → IsSuper k s → n ≡ i.behind_of s → Each (Good n) (own core n)
    behind_too s here super is = by (stays (flags_here (holder k s)) (own k s)) refl
      where
        by_join : stays (flags_here (holder k s)) (own k s) ≡ false → (b : Bool) → has_join (own k s) ≡ b → Each (Good n) (own core n)
        by_join apart false without =
            absurd (none s (checks_of k core i (holder k s)) here
            (by_behind is (rw (some_empty k core i (state_at k s).regions super, apart, without) refl)))
        by_join apart true some =
            let join = some_kept (λ t. is_join t.kind) (own k s) some in
            subst (λ z. Each (Good z) (own core z)) (sym is) (behind_tame c rules core_rules s here super apart join.0 join.1.0 join.1.1)

        by : (b : Bool) → stays (flags_here (holder k s)) (own k s) ≡ b → Each (Good n) (own core n)
        by true stay =
            let past : i.behind_of s ≡ length core.states + s = (whole.state_fits c rules core_rules s here).behind_past super stay in
            absurd (omega (past, is, lt, arith))
        by false apart = by_join apart (has_join (own k s)) refl

    by_sort : CoreSort (world c rules) n → Each (Good n) (own core n)
    by_sort (for_simple s simple is) =
        absurd (none s (checks_of k core i (holder k s)) simple.there (by_main is (rw (simple.no_regions, simple.not_final) refl)))
    by_sort (for_super s here super is) = subst (λ z. Each (Good z) (own core z)) (sym is) (main_tame s here super)
    by_sort (for_entry s here super is) = subst (λ z. Each (Good z) (own core z)) (sym is) (entry_too s here super)
    by_sort (for_behind s here super is) = behind_too s here super is
    by_sort (for_watching s here has is) = absurd (none s (monitor_checks k core i s) here (by_watching is has))
    by_sort (for_start r target there e) = subst (Each (Good n)) (sym e) (start_tame c rules core_rules n r there target)
    by_sort (for_nothing e) = subst (Each (Good n)) (sym e) tt

  all_tame : (n : ℕ) → ((s : ℕ) (ts : List Transition) → s < length k.states → Matches n s ts → ⊥) → Each (Good n) (own core n)
  all_tame n none =
      ⊎_elim (λ lt. by_sort n lt none (whole.core_sort c rules core_rules n lt)) (λ past. subst (Each (Good n)) (sym (no_tests_past core n past)) tt)
      (within_or_past n (length core.states))

  -- ---- of each state

  for_match : (n s : ℕ) (ts : List Transition) → IsState k s → Matches n s ts → For n ts
  for_match n s _ here (by_main is waits) =
      let both = and_parts (is_empty k core i (state_at k s).regions) (not (is_final k s)) waits in
      subst (λ z. For z (checks_of k core i (holder k s))) (sym is)
      (main_for c rules core_rules s
      (record {
        there = here;
        no_regions = none_empty k core i (state_at k s).regions both.0;
        not_final = not-true (is_final k s) both.1;
      }))
  for_match n s _ here (by_behind is waits) =
      let both = and_parts (not (is_empty k core i (state_at k s).regions))
      (not (stays (flags_here (holder k s)) (own k s)) && not (has_join (own k s))) waits in
      let two = and_parts (not (stays (flags_here (holder k s)) (own k s))) (not (has_join (own k s))) both.1 in
      subst (λ z. For z (checks_of k core i (holder k s))) (sym is)
      (behind_for c rules core_rules s here (not_empty k core i (state_at k s).regions both.0)
      (not-true (stays (flags_here (holder k s)) (own k s)) two.0) (not-true (has_join (own k s)) two.1))
  for_match n s _ here (by_watching is has) =
      subst (λ z. For z (monitor_checks k core i s)) (sym is) (watching_for s here has)

  for_state : (n states : ℕ) (ts : List Transition) → Result n states ts → states ≡ length k.states → For n ts
  for_state n _ _ (found states s ts lt m) all = for_match n s ts (subst (λ z. s < z) all lt) m
  for_state n _ _ (missed states none) all =
      record {
        left = 0;
        seen = [];
        are = refl;
        others = own core n;
        last = sym (append-nil (own core n));
        tame = all_tame n (λ s ts lt m. none s ts (subst (λ z. s < z) (sym all) lt) m);
        mild = tt;
        bare = λ x h. absurd (none_in x h);
        ends = λ x h. absurd (none_in x h);
        inside = λ x h. absurd (none_in x h);
      }

  pub of_state : (n : ℕ) → For n (looks c rules core_rules n)
  of_state n = for_state n (length k.states) (looks c rules core_rules n) (result n (length k.states)) refl

  all_mild : (n : ℕ) → Each (Gentle n) (own core n)
  all_mild n =
      subst (Each (Gentle n)) (sym (of_state n).last)
      (each_append (Gentle n) (of_state n).others (looks c rules core_rules n)
      (each_more (Good n) (Gentle n) (of_state n).others (λ t is. is.mild) (of_state n).tame) (of_state n).mild)

  pub all_plain : (n : ℕ) → Each IsPlain (own core n)
  all_plain n = each_more (Gentle n) IsPlain (own core n) (λ t is. (is.no_strong, is.no_weak)) (all_mild n)

  pub effect_at : (n : ℕ) (t : Transition) (e : Effect) → Contains (own core n) t → Contains t.effects e → TameEffect c rules core_rules n e
  effect_at n t e own_one among =
      each_among (TameEffect c rules core_rules n) t.effects (each_among (Gentle n) (own core n) (all_mild n) t own_one).effects e among

  unfoldable pub core_looks : Looks core (looks c rules core_rules)
  core_looks =
      record {
        seen = λ n. (of_state n).seen;
        left = λ n. (of_state n).left;
        are_looks = λ n. (of_state n).are;
        others = λ n. (of_state n).others;
        stand_last = λ n. (of_state n).last;
        no_regions = λ n x h. (of_state n).bare x h;
        ends_there = λ n x h. (of_state n).ends x h;
        superstate_of = λ x. i.main_of (rows.of_flag x);
        lies_inside = λ n x h.
            let u = (of_state n).inside x h in
            subst (λ v. Contains (around core (holder core n)) (i.main_of v)) (sym (owner_of_weak c rules core_rules u.0 x u.2)) u.3;
        sets = λ n x m t e h own_one among same.
            let u = (of_state n).inside x h in
            ⊎_elim (λ raised. inl raised)
            (λ home. inr (subst (λ v. AtHome c rules core_rules m v) (sym (owner_of_weak c rules core_rules u.0 x u.2)) home))
            ((effect_at m t e own_one among).sets_home u.0 x u.2 same);
        no_strong = λ n. none_strong (own core n) (all_plain n);
        no_weak = λ n. none_weak (own core n) (all_plain n);
      }

  -- ---- what follows for each look, and for all other transitions

  pub effects_read : (n : ℕ) (t : Transition) (e : Effect) → Contains (own core n) t → Contains t.effects e → (u x : ℕ) → IsWeak c rules core_rules u x →
      ¬ Reads (access_of_assignment e.variable (assignment_of e.variable e.value)) x
  effects_read n t e own_one among u x weak = (effect_at n t e own_one among).reads_none u x weak
