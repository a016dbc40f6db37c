-- A monitor that has looked at the strong flags around its superstate, or is not there: it is at its tests.
use Rattle.std.proofs.Common.{◌≡◌, ◌≢◌, ℕ, true, false, List, ◌∷◌, ◌++◌, map}
use Rattle.core_charts.specs.declared.region.Transition.{Transition}
use Rattle.core_charts.specs.Tests.{strong_aborts, weak_aborts, is_join}
use Rattle.chart_machine.specs.declared.standing.Standing.{Standing}
use Rattle.chart_machine.specs.declared.standing.Standing.TheVariants as at
use Rattle.chart_machine.specs.declared.table.Table.{Table}
use Rattle.abort_expansion.specs.Transitions.{raising}
use Rattle.abort_expansion_laws.specs.CoreRows.{own, Images}
use Rattle.abort_expansion_laws.specs.Related.{Each, AreAmong, raise_each, monitor_last}
use Rattle.abort_expansion_laws.proofs.StrongNotTaken.{MonitorGuards, from_some}
use Rattle.abort_expansion_laws.proofs.WeakNotTaken.{MonitorWaits, from_waiting}

module _ (k core : Table) (i : Images) (o : ℕ) where
  pub data HasLooked : Standing → Standing → Type 0 where
    at_strong : (some : List (ℕ × Transition)) → AreAmong (strong_aborts (own k o)) some →
        HasLooked (at.Guarding o (map (λ x. x.1) some))
        (at.Trying (i.watching_of o) (raise_each (λ t. false) (i.flags_of o).strong some
        ++ (raising (λ t. t.immediate) 1 (i.flags_of o).weak 1 (weak_aborts (own k o)) ++ monitor_last k core i o)))
    at_weak : (some : List (ℕ × Transition)) (ends : List Transition) → AreAmong (weak_aborts (own k o)) some → Each (λ t. is_join t.kind ≡ true) ends →
        HasLooked (at.Within o (map (λ x. x.1) some ++ ends))
        (at.Trying (i.watching_of o) (raise_each (λ t. t.immediate) (i.flags_of o).weak some ++ monitor_last k core i o))
    not_there : (x : Standing) → ((tests : List Transition) → x ≢ at.Guarding o tests) → ((tests : List Transition) → x ≢ at.Within o tests) →
        HasLooked x at.Outside

  -- so where a test of its superstate is next, it makes it
  pub looked_strong : (x y : Standing) → HasLooked x y → (t : Transition) (tests : List Transition) → x ≡ at.Guarding o (t ∷ tests) →
      MonitorGuards k core i o t tests y
  looked_strong _ _ (at_strong some among) t tests e =
      let same : map (λ (x : ℕ × Transition). x.1) some ≡ t ∷ tests = cc in from_some k core i o some among t tests same
  looked_strong _ _ (at_weak some ends among only) t tests e = absurd cc
  looked_strong x _ (not_there _ a b) t tests e = absurd (a (t ∷ tests) e)

  pub looked_weak : (x y : Standing) → HasLooked x y → (t : Transition) (tests : List Transition) → x ≡ at.Within o (t ∷ tests) →
      is_join t.kind ≡ false → MonitorWaits k core i o t tests y
  looked_weak _ _ (at_strong some among) t tests e no_join = absurd cc
  looked_weak _ _ (at_weak some ends among only) t tests e no_join =
      let same : map (λ (x : ℕ × Transition). x.1) some ++ ends ≡ t ∷ tests = cc in from_waiting k core i o some ends among only t tests no_join same
  looked_weak x _ (not_there _ a b) t tests e no_join = absurd (b (t ∷ tests) e)
