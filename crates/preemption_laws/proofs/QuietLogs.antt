-- Where looks count as steps without access, a run of a core chart is the same, and its log is ordered where it was.
use Rattle.std.proofs.Common.{◌≡◌, ◌≢◌, ℕ, ◌⊎◌, inl, inr, Bool, true, false, Option, Some, None, option_and_then, List, [], ◌∷◌}
use Rattle.std.proofs.Common.{refl, sym, ap, subst}
use Rattle.sc_values.specs.Access.{Access, no_access, MayPrecede}
use Rattle.sc_values.specs.Runs.{Machine, replay, Act, act_of, acts, acts_after, IsAdmissible}
use Rattle.sc_values.proofs.Order.{Clear, EachIsOpen, Orderly, orderly_from_admissible, admissible_from_orderly}
use Rattle.core_charts.specs.declared.region.Transition.{Transition}
use Rattle.chart_machine.specs.declared.standing.Configuration.{Configuration}
use Rattle.chart_machine.specs.declared.table.Table.{Table}
use Rattle.chart_machine.specs.Turns.{standing_of, ForkedApart}
use Rattle.chart_machine.specs.Steps.{step, access_of}
use Rattle.chart_machine.specs.Machine.{machine}
use Rattle.preemption_laws.proofs.CappedRanks.{idle_first}
use Rattle.preemption_laws.specs.Waiting.{is_waiting, wait_access}
use Rattle.preemption_laws.proofs.QuietSteps.{quiet_machine}
use Rattle.abort_expansion_laws.proofs.Commuting.{plain_second}

-- the same access, or none
abbrev OrSilent : Access → Access → Type 0
OrSilent now was = (now ≡ was) ⊎ (now ≡ no_access)

may_still : (a b was was_too : Access) → OrSilent a was → OrSilent b was_too → MayPrecede was was_too → MayPrecede a b
may_still a b was was_too (inr none) second may = idle_first a b none
may_still a b was was_too (inl same) (inr none) may = plain_second a b (ap (λ (z : Access). z.writes) none)
may_still a b was was_too (inl same) (inl same_too) may = subst (λ z. MayPrecede z b) (sym same) (subst (MayPrecede was) (sym same_too) may)

module _ (k : Table) (looks : ℕ → List Transition) where
  abbrev quiet : Machine
  quiet = quiet_machine k looks

  pub quiet_runs : (run : List ℕ) (c : Configuration) → replay quiet run c ≡ replay (machine k) run c
  quiet_runs [] c = refl
  quiet_runs (t ∷ run) c = by (step k t c) (quiet_runs run)
    where
      by : (o : Option Configuration) → ((d : Configuration) → replay quiet run d ≡ replay (machine k) run d) →
          option_and_then (replay quiet run) o ≡ option_and_then (replay (machine k) run) o
      by None same = refl
      by (Some d) same = same d

  silent_or_same : (c : Configuration) (t : ℕ) → OrSilent (wait_access k looks c t) (access_of (standing_of c t))
  silent_or_same c t = by (is_waiting k looks (standing_of c t)) refl
    where
      by : (b : Bool) → is_waiting k looks (standing_of c t) ≡ b → OrSilent (wait_access k looks c t) (access_of (standing_of c t))
      by true is = inr (rw (is) refl)
      by false is = inl (rw (is) refl)

  abbrev act : ℕ → Access → Act
  act t a = record { thread = t; access = a }

  clear_still : (t : ℕ) (a was : Access) → OrSilent a was → (run : List ℕ) (c : Configuration) (IsOpen : ℕ → Type 0) →
      Clear (ForkedApart k) (act t was) IsOpen (acts (machine k) run c) → Clear (ForkedApart k) (act t a) IsOpen (acts quiet run c)
  clear_still t a was less [] c IsOpen clear = tt
  clear_still t a was less (u ∷ run) c IsOpen clear = (
    λ b apart is_open. may_still a (wait_access k looks c u) was (access_of (standing_of c u)) less (silent_or_same c u) (clear.0 b apart is_open),
    by (step k u c) clear.1 (λ d clear_there. clear_still t a was less run d (λ b. IsOpen b × (u ≢ b)) clear_there),
  )
    where
      by : (o : Option Configuration) → Clear (ForkedApart k) (act t was) (λ b. IsOpen b × (u ≢ b)) (acts_after (machine k) (acts (machine k) run) o) →
          ((d : Configuration) → Clear (ForkedApart k) (act t was) (λ b. IsOpen b × (u ≢ b)) (acts (machine k) run d) →
          Clear (ForkedApart k) (act t a) (λ b. IsOpen b × (u ≢ b)) (acts quiet run d)) →
          Clear (ForkedApart k) (act t a) (λ b. IsOpen b × (u ≢ b)) (acts_after quiet (acts quiet run) o)
      by None there rest = tt
      by (Some d) there rest = rest d there

  orderly_still : (run : List ℕ) (c : Configuration) → Orderly (ForkedApart k) (acts (machine k) run c) → Orderly (ForkedApart k) (acts quiet run c)
  orderly_still [] c orderly = tt
  orderly_still (t ∷ run) c orderly = by (step k t c) orderly (λ d. orderly_still run d)
    where
      by : (o : Option Configuration) → Orderly (ForkedApart k) (act_of (machine k) c t ∷ acts_after (machine k) (acts (machine k) run) o) →
          ((d : Configuration) → Orderly (ForkedApart k) (acts (machine k) run d) → Orderly (ForkedApart k) (acts quiet run d)) →
          Orderly (ForkedApart k) (act_of quiet c t ∷ acts_after quiet (acts quiet run) o)
      by None both rest = (tt, tt)
      by (Some d) both rest =
          (clear_still t (wait_access k looks c t) (access_of (standing_of c t)) (silent_or_same c t) run d EachIsOpen both.0, rest d both.1)

  pub quiet_admissible : (run : List ℕ) (c : Configuration) → IsAdmissible (machine k) run c → IsAdmissible quiet run c
  quiet_admissible run c ordered =
      admissible_from_orderly (ForkedApart k) (acts quiet run c)
      (orderly_still run c (orderly_from_admissible (ForkedApart k) (acts (machine k) run c) ordered))
