-- Where nobody guards around a superstate, its monitor comes to have looked at the strong flags around.
use Rattle.std.proofs.Common.{◌≡◌, ◌≢◌, ℕ, Bool, true, false, Option, Some, List, ◌∷◌, ◌++◌, map, Contains, refl, sym, ap, subst, ◌∙◌}
use Rattle.std.specs.Prelude.{reverse}
use Rattle.sc_values.specs.Access.{Access}
use Rattle.sc_values.specs.Runs.{Act}
use Rattle.core_charts.specs.declared.region.Transition.{Transition}
use Rattle.core_charts.specs.Tests.{weak_aborts, is_weak, is_join}
use Rattle.core_charts.specs.Aborts.{has_aborts}
use Rattle.chart_machine.specs.declared.standing.Standing.{Standing}
use Rattle.chart_machine.specs.declared.standing.Standing.TheVariants as at
use Rattle.chart_machine.specs.declared.standing.Configuration.{Configuration}
use Rattle.chart_machine.specs.declared.table.Table.{Table}
use Rattle.chart_machine.specs.Turns.{standing_of, has_work, is_guarded}
use Rattle.chart_machine.specs.Machine.{machine}
use Rattle.abort_expansion.specs.Transitions.{strong_checks, raising}
use Rattle.abort_expansion_laws.specs.Stages.{Entry, Silent, Correspondence}
use Rattle.chart_machine_laws.proofs.LyingIn.{IsNested, around, holder}
use Rattle.abort_expansion_laws.specs.CoreRows.{own, IsState, Images, CoreRows}
use Rattle.abort_expansion_laws.specs.Related.{raise_each, monitor_last, Watches, guards as watch_guards, looks_strong, waits, looks, elsewhere, Related}
use Rattle.abort_expansion_laws.proofs.StageReached.{Stage}
use Rattle.abort_expansion_laws.proofs.ImageSteps.{pair}
use Rattle.abort_expansion_laws.proofs.KnownVariables.{present_there}
use Rattle.abort_expansion_laws.proofs.Segments.{Segment}
use Rattle.abort_expansion_laws.proofs.StartingRegions.{CounterRows}
use Rattle.abort_expansion_laws.proofs.OpensFork.{OpeningRows}
use Rattle.abort_expansion_laws.proofs.LaterTicks.{weak_no_join}
use Rattle.abort_expansion_laws.proofs.LeftTests.{kept_is}
use Rattle.abort_expansion_laws.proofs.HasLooked.{HasLooked, at_strong, at_weak, not_there}
use Rattle.abort_expansion_laws.proofs.MonitorLooks.{looked_before}

module _ (k core : Table) (i : Images) (rows : CoreRows k core i) (tree : IsNested k) (counts : ℕ → Bool) (written_at : ℕ → ℕ)
    (counters : CounterRows k core i rows counts written_at) (opening : OpeningRows k core i rows)
    (strong_at : (s x : ℕ) → (i.flags_of s).strong ≡ Some x → written_at x ≡ 0) (super_there : (q s : ℕ) → Contains (around k q) s → IsState k s)
    (Told : Configuration → Entry → Type 0)
    (told : (e : Configuration) (t : ℕ) (stage : Option (ℕ × ℕ)) (a : Access) → Told e (Silent t stage a))
    (c d : Configuration) (related : Related k core i c d) (o : ℕ) (o_there : IsState k o) (has : has_aborts (own k o) ≡ true)
    (free : is_guarded k c (around k (holder k o)) ≡ false) where
  abbrev corr : Correspondence
  corr = pair k core i rows tree counts written_at

  abbrev Looked : Standing → Type 0
  Looked y = HasLooked k core i o (standing_of c (holder k o)) y

  module _ (steps : List Act) (After : Configuration → ℕ → ℕ → Type 0) (Reaches : Configuration → Type 0) where
    -- this part of the run, from there on
    abbrev GoesFrom : Configuration → Type 0
    GoesFrom z = Segment (machine core) corr Told z (Stage k i.thread_of c z) After steps Reaches

    -- it looks, before these tests
    module _ (goes_on : (z : Configuration) → Related k core i c z → Looked (standing_of z (i.watcher_of o)) →
        ((t : ℕ) → t ≢ i.watcher_of o → standing_of z t ≡ standing_of d t) → GoesFrom z) where
      looks_now : (x : Standing) (yet seen : List ℕ) → around k (holder k o) ≡ reverse yet ++ seen → (rest : List Transition) →
          standing_of c (holder k o) ≡ x → x ≢ at.Outside → has_work k c x ≡ true →
          standing_of d (i.watcher_of o) ≡
          at.Trying (i.watching_of o) (strong_checks false 1 (map i.flags_of yet) ++ rest) →
          Watches k core i o x (at.Trying (i.watching_of o) rest) → HasLooked k core i o x (at.Trying (i.watching_of o) rest) → GoesFrom d
      looks_now x yet seen parted rest x_is present works waits_there watches looked =
          looked_before k core i rows tree counts written_at counters opening strong_at super_there Told told c d related (holder k o) o o_there has refl
          (present_there k core i c d related (holder k o) (λ out. present (sym x_is ∙ out))) (λ out. present (sym x_is ∙ out))
          (ap (has_work k c) x_is ∙ works) free yet seen parted rest waits_there
          (subst (λ w. Watches k core i o w (at.Trying (i.watching_of o) rest)) (sym x_is) watches) steps After Reaches
          (λ z related_z at_test others.
          goes_on z related_z
          (subst Looked (sym at_test) (subst (λ w. HasLooked k core i o w (at.Trying (i.watching_of o) rest)) (sym x_is) looked)) others)

      has_looked : (x y : Standing) → standing_of c (holder k o) ≡ x → standing_of d (i.watcher_of o) ≡ y → HasLooked k core i o x y → GoesFrom d
      has_looked x y x_is y_is looked =
          goes_on d related (subst Looked (sym y_is) (subst (λ w. HasLooked k core i o w y) (sym x_is) looked)) (λ t ne. refl)

      by_watch : (x y : Standing) → Watches k core i o x y → standing_of c (holder k o) ≡ x → standing_of d (i.watcher_of o) ≡ y → GoesFrom d
      by_watch _ _ (watch_guards some among) x_is y_is = has_looked _ _ x_is y_is (at_strong some among)
      by_watch _ _ (looks_strong yet seen parted some among) x_is y_is =
          looks_now (at.Guarding o (map (λ x. x.1) some)) yet seen parted
          (raise_each (λ t. false) (i.flags_of o).strong some
          ++ (raising (λ t. t.immediate) 1 (i.flags_of o).weak 1 (weak_aborts (own k o)) ++ monitor_last k core i o))
          x_is (λ e. absurd cc) refl y_is (watch_guards some among) (at_strong some among)
      by_watch _ _ (waits some ends among only) x_is y_is = has_looked _ _ x_is y_is (at_weak some ends among only)
      by_watch _ _ (looks yet seen parted first some ends among only) x_is y_is =
          looks_now (at.Within o (map (λ x. x.1) (first ∷ some) ++ ends)) yet seen parted
          (raise_each (λ t. t.immediate) (i.flags_of o).weak (first ∷ some) ++ monitor_last k core i o)
          x_is (λ e. absurd cc) (rw (no_join) refl) y_is (waits (first ∷ some) ends among only) (at_weak (first ∷ some) ends among only)
        where
          no_join : is_join first.1.kind ≡ false
          no_join = weak_no_join first.1.kind (kept_is (λ t. is_weak t.kind) (own k o) first.0 first.1 among.0)
      by_watch x _ (elsewhere _ a b) x_is y_is = has_looked x at.Outside x_is y_is (not_there x a b)

      pub looked_first : GoesFrom d
      looked_first = by_watch (standing_of c (holder k o)) (standing_of d (i.watcher_of o)) (related.watchers o o_there has) refl refl
