-- As a tick starts, whatever lies in a superstate that is guarded resumes before its check of the strong flag, and comes so below
-- the nodes of the monitor that raise it.
use Rattle.std.proofs.Common.{◌≡◌, ◌≢◌, ℕ, ◌<◌, ◌⊎◌, inl, inr, ⊎_elim, Bool, true, false, ◌||◌, Some, List, [], ◌∷◌, ◌++◌, map}
use Rattle.std.proofs.Common.{Contains, refl, sym, ap, subst, ◌∙◌, cond}
use Rattle.sc_graph.specs.declared.tables.Tables.{Tables}
use Rattle.sc_graph.specs.declared.control.Control.{Control}
use Rattle.sc_graph.specs.declared.control.Status.TheVariants as status
use Rattle.sc_graph.specs.Program.{Program, parent_of}
use Rattle.sc_graph.specs.Threads.{Descends}
use Rattle.sc_graph.specs.Control.{status_of}
use Rattle.sc_graph.specs.Tables.{priority, priority_of}
use Rattle.sc_graph.specs.Valid.{IsValid}
use Rattle.tick_laws.proofs.Views.{Enabled}
use Rattle.core_charts.specs.declared.region.Transition.{Transition}
use Rattle.core_charts.specs.Tests.{is_strong, strong_aborts}
use Rattle.core_charts.specs.Aborts.{has_aborts, has_strong}
use Rattle.chart_machine.specs.declared.standing.Standing.{Standing}
use Rattle.chart_machine.specs.declared.standing.Standing.TheVariants as at
use Rattle.chart_machine.specs.declared.standing.Configuration.{Configuration}
use Rattle.chart_machine.specs.declared.table.Table.{Table}
use Rattle.chart_machine.specs.Table.{state_at}
use Rattle.chart_machine.specs.Turns.{standing_of, guards}
use Rattle.chart_machine.specs.Steps.{step}
use Rattle.chart_lowering_laws.specs.Stands.{Lowered}
use Rattle.compiled_charts_laws.proofs.LateTests.{is_late}
use Rattle.chart_machine_laws.proofs.LyingIn.{IsNested, around, holder}
use Rattle.chart_machine_laws.specs.Tree.{IsThere}
use Rattle.abort_expansion_laws.specs.CoreRows.{own, IsState, Images, CoreRows}
use Rattle.abort_expansion_laws.specs.Related.{Watches, guards as watch_guards, waits, looks_strong, looks}
use Rattle.abort_expansion_laws.specs.Related.{elsewhere}
use Rattle.abort_expansion_laws.specs.Related.{Related}
use Rattle.abort_expansion_laws.proofs.InsideLeaves.{AloneRows}
use Rattle.abort_expansion_laws.proofs.BesideMonitors.{LiesBeside, a_region, a_monitor, none_at_root, lies_beside, beside_apart, check_below}
use Rattle.abort_expansion_laws.proofs.SeesFirst.{SeesFirst, out, over, checks, forks, sees_first, monitor_sees}
use Rattle.chart_machine.specs.Turns.{ForkedApart}
use Rattle.abort_expansion_laws.proofs.ChecksUpTo.{ChecksUpTo, strong_around}
use Rattle.abort_expansion_laws.proofs.StrongTestsQuiet.{Excused}
use Rattle.abort_expansion_laws.proofs.WakesLow.{WakesLow, wakes_tests, wakes_fork}
use Rattle.abort_expansion_laws.proofs.LowPriorities.{Under}
use Rattle.abort_expansion_laws.proofs.QuietBegins.{LoweredTests, IsRaising, Beside, StaysLow}

-- where a delayed test is to be made, the superstate is guarded, or open
module _ (k core : Table) (i : Images) where
  monitor_late : (o : ℕ) (x y : Standing) → Watches k core i o x y → is_late y ≡ true → ((tests : List Transition) × (x ≡ at.Guarding o tests)) ⊎
      ((tests : List Transition) × (x ≡ at.Within o tests))
  monitor_late o _ _ (watch_guards some among) late = inl (map (λ (z : ℕ × Transition). z.1) some, refl)
  monitor_late o _ _ (looks_strong yet seen parted some among) late = inl (map (λ (z : ℕ × Transition). z.1) some, refl)
  monitor_late o _ _ (waits some ends among all) late = inr (map (λ (z : ℕ × Transition). z.1) some ++ ends, refl)
  monitor_late o _ _ (looks yet seen parted first some ends among all) late = inr (map (λ (z : ℕ × Transition). z.1) (first ∷ some) ++ ends, refl)
  monitor_late o x _ (elsewhere _ a b) late = absurd cc

module _ (k core : Table) (i : Images) (rows : CoreRows k core i) (lone : AloneRows k core i) (tree : IsNested k) (core_tree : IsNested core)
    (core_children : (s r : ℕ) → Contains (state_at core s).regions r → around core r ≡ s ∷ around core (holder core s))
    (children : (s r : ℕ) → Contains (state_at k s).regions r → around k r ≡ s ∷ around k (holder k s))
    (super_there : (r s : ℕ) → Contains (around k r) s → IsState k s) (holds_there : (s : ℕ) → IsState k s → IsThere k (holder k s))
    (strong_for : (s x : ℕ) → (i.flags_of s).strong ≡ Some x → has_strong (own k s) ≡ true)
    (p : Program) (q : Tables) (valid : IsValid p q) (Alike : Configuration → Control → Type 0) (lowered : Lowered core p Alike)
    (tests : LoweredTests core p Alike lowered)
    (late_before : (d next : Configuration) (t g : ℕ) → step core t d ≡ Some next → is_late (standing_of next g) ≡ true →
    is_late (standing_of d g) ≡ true)
    (top_parent : (t : ℕ) → IsThere core t → around core t ≡ [] → parent_of p t ≡ Some 0)
    (c d : Configuration) (related : Related k core i c d) (m : Control) (alike : Alike d m)
    (wakes : (t : ℕ) → t ≢ 0 → Enabled p m t → WakesLow p q m t (standing_of d t))
    (plain_open : (o : ℕ) (tests : List Transition) → standing_of c (holder k o) ≡ at.Within o tests → strong_aborts (own k o) ≡ []) where
  -- ---- a guarded superstate

  module _ (o : ℕ) (o_there : IsState k o) (has : has_aborts (own k o) ≡ true) (others : List Transition)
      (guarding_now : standing_of c (holder k o) ≡ at.Guarding o others) (n : ℕ)
      (raises_it : IsRaising k core i rows core_tree p q valid Alike lowered tests late_before o n) where
    abbrev Low : ℕ → Type 0
    Low t = (priority_of q (status_of m t) < priority q n) ⊎ Excused p q (priority q n) (strong_around k o) (status_of m t)

    -- a thread that resumes at its check, be it that of a region or a monitor
    module _ (t : ℕ) (apart : ForkedApart core t (i.watcher_of o) (i.thread_of (holder k o))) where
      by_first : (y : Standing) →
          SeesFirst k core i rows lone tree core_children children c d related o raises_it.flag has raises_it.is_flag (ap guards guarding_now) y →
          WakesLow p q m t y → Low t
      by_first _ out (wakes_tests u tests is soon) = absurd cc
      by_first _ out (wakes_fork u is) = absurd cc
      by_first _ over (wakes_tests u tests is soon) = absurd cc
      by_first _ over (wakes_fork u is) = absurd cc
      by_first _ (checks z place tests up) (wakes_tests u same is soon) =
          let are : tests ≡ same = cc in
          inr (soon raises_it.flag place (strong_around k o) (priority q n) (subst (ChecksUpTo raises_it.flag place (strong_around k o)) are up)
          (λ node owned does.
          check_below k core i rows tree core_tree super_there holds_there p q valid Alike lowered top_parent c d related o o_there has others guarding_now
          n raises_it.flag raises_it.owned raises_it.inits t apart node owned does))
      by_first _ (checks z place tests up) (wakes_fork u is) = absurd cc
      by_first _ (forks z w rest) (wakes_tests u tests is soon) = absurd cc
      by_first _ (forks z w rest) (wakes_fork u is) = absurd cc

    woken_there : (t : ℕ) (y : Standing) → WakesLow p q m t y → y ≢ at.Outside
    woken_there t y (wakes_tests u tests is soon) e = let wrong : at.Trying u tests ≡ at.Outside = sym is ∙ e in absurd cc
    woken_there t y (wakes_fork u is) e = let wrong : at.Within u [] ≡ at.Outside = sym is ∙ e in absurd cc

    low : (t : ℕ) → Under p (Beside k core i rows core_tree p q valid Alike lowered tests late_before o) t → Enabled p m t → Low t
    low t under on =
        by_sort (lies_beside k core i rows tree core_tree super_there holds_there p q valid Alike lowered top_parent c d related o o_there has others
        guarding_now t under.0 under.1.0 under.1.1 under.2 present)
      where
        not_root : t ≢ 0
        not_root same =
            none_at_root k core i rows tree core_tree super_there holds_there p q valid Alike lowered top_parent c d related under.2.generations
            (i.thread_of (holder k o)) under.0 under.1.0 (subst (λ z. Descends p under.2.generations z under.0) same under.2.descends)

        woke : WakesLow p q m t (standing_of d t)
        woke = wakes t not_root on

        present : standing_of d t ≢ at.Outside
        present = woken_there t (standing_of d t) woke

        by_sees : ForkedApart core t (i.watcher_of o) (i.thread_of (holder k o)) →
            SeesFirst k core i rows lone tree core_children children c d related o raises_it.flag has raises_it.is_flag (ap guards guarding_now)
            (standing_of d t) → Low t
        by_sees apart sees = by_first t apart (standing_of d t) sees woke

        by_sort : (lies : LiesBeside k core i rows tree core_tree super_there holds_there p q valid Alike lowered top_parent c d related o o_there has others
            guarding_now t) → Low t
        by_sort (a_region v there is in_o) =
            by_sees
            (beside_apart k core i rows tree core_tree super_there holds_there p q valid Alike lowered top_parent c d related o o_there has others
            guarding_now t (a_region v there is in_o))
            (subst (λ z. SeesFirst k core i rows lone tree core_children children c d related o raises_it.flag has raises_it.is_flag
            (ap guards guarding_now) (standing_of d z)) (sym is)
            (sees_first k core i rows lone tree core_children children c d related o raises_it.flag has raises_it.is_flag (ap guards guarding_now) v there
            in_o))
        by_sort (a_monitor w there has_too is in_o) =
            by_sees
            (beside_apart k core i rows tree core_tree super_there holds_there p q valid Alike lowered top_parent c d related o o_there has others
            guarding_now t (a_monitor w there has_too is in_o))
            (subst (λ z. SeesFirst k core i rows lone tree core_children children c d related o raises_it.flag has raises_it.is_flag
            (ap guards guarding_now) (standing_of d z)) (sym is)
            (monitor_sees k core i rows lone tree core_children children c d related o raises_it.flag has raises_it.is_flag (ap guards guarding_now) w there
            has_too in_o))

  pub starts_low : (o : ℕ) → IsState k o → has_aborts (own k o) ≡ true → is_late (standing_of d (i.watcher_of o)) ≡ true → (n : ℕ) →
      IsRaising k core i rows core_tree p q valid Alike lowered tests late_before o n →
      StaysLow k core i rows core_tree p q valid Alike lowered tests late_before o n m
  starts_low o there has late n raises_it =
      ⊎_elim
      (λ x. record {
        ok = lowered.configuration d m alike;
        waits = subst (λ z. status_of m z ≡ status.Waiting (lowered.join_of (i.main_of o))) (rows.held o)
            (tests.waits_there d m (i.watcher_of o) (i.main_of o) (around core (i.thread_of (holder k o))) alike (rows.watcher o there has).encloses late);
        low = low o there has x.0 x.1 n raises_it;
      })
      (λ x.
      absurd (none (strong_for o raises_it.flag raises_it.is_flag) (plain_open o x.0 x.1)))
      (monitor_late k core i o (standing_of c (holder k o)) (standing_of d (i.watcher_of o)) (related.watchers o there has) late)
    where
      strong_none : (ts : List Transition) → has_strong ts ≡ true → strong_aborts ts ≡ [] → ⊥
      strong_none [] some bare = absurd cc
      strong_none (t ∷ ts) some bare = by (is_strong t.kind) some bare (λ more none. strong_none ts more none)
        where
          by : (b : Bool) → (b || has_strong ts) ≡ true → cond b (t ∷ strong_aborts ts) (strong_aborts ts) ≡ [] →
              (has_strong ts ≡ true → strong_aborts ts ≡ [] → ⊥) → ⊥
          by true some bare further = absurd cc
          by false some bare further = further some bare

      none : has_strong (own k o) ≡ true → strong_aborts (own k o) ≡ [] → ⊥
      none some bare = strong_none (own k o) some bare
