-- What each thread owes that is inside of a superstate whose flag was raised: its tests lead out, or its fork is over first.
use Rattle.std.proofs.Common.{◌≡◌, ◌≢◌, ℕ, ◌<◌, ◌≤◌, ◌⊎◌, Bool, true, false, Option, Some, None, List, []}
use Rattle.std.proofs.Common.{◌∷◌, Contains}
use Rattle.core_charts.specs.declared.region.Transition.{Transition}
use Rattle.chart_machine.specs.declared.standing.Standing.{Standing}
use Rattle.chart_machine.specs.declared.standing.Standing.TheVariants as at
use Rattle.chart_machine.specs.declared.standing.Configuration.{Configuration}
use Rattle.chart_machine.specs.declared.table.Table.{Table}
use Rattle.chart_machine.specs.Table.{state_at}
use Rattle.chart_machine.specs.Turns.{standing_of, inside}
use Rattle.chart_machine.specs.Steps.{to, verdict, access_of_trigger, state_in}
use Rattle.abort_expansion_laws.specs.Stages.{Correspondence, IsSilent}
use Rattle.chart_machine_laws.proofs.LyingIn.{around, holder}
use Rattle.abort_expansion_laws.specs.CoreRows.{joins}

-- whether a thread stands in a fork
abbrev pub is_forked : Standing → Bool
is_forked (at.Within s tests) = true
is_forked other = false

-- stage 3 of one that holds a fork inside, and leaves later
pub record IsOfInner (core : Table) (f : ℕ) (first : Configuration) (q : ℕ) (staged : Option (ℕ × ℕ)) : Type 0 where
  pub inner : ℕ
  pub is : staged ≡ Some (inner, 3)
  pub later : inner < q
  pub lies_in : Contains (around core inner) f
  pub forked : is_forked (standing_of first inner) ≡ true

-- stage 1 of one that holds a superstate around home
pub record IsOfOuter (core : Table) (home : ℕ) (staged : Option (ℕ × ℕ)) : Type 0 where
  pub superstate : ℕ
  pub around_home : Contains (around core home) superstate
  pub is : staged ≡ Some (holder core superstate, 1)

-- no stage; a stage of this superstate's holder; one of a superstate inside; or one of a superstate around
abbrev pub IsStaged : (core : Table) (home stage f : ℕ) (first : Configuration) (q : ℕ) → Option (ℕ × ℕ) → Type 0
IsStaged core home stage f first q staged =
    (staged ≡ None) ⊎ ((staged ≡ Some (home, stage)) ⊎ (IsOfInner core f first q staged ⊎ IsOfOuter core home staged))

-- of who holds a superstate around home no stage but 1 is reached
abbrev pub AreOuterOne : (core : Table) (Others : ℕ → ℕ → Type 0) (home : ℕ) → Type 0
AreOuterOne core Others home =
    (s : ℕ) → Contains (around core home) s → ((n : ℕ) → Others (holder core s) n → n ≤ 1) × Others (holder core s) 1

-- its tests fail up to one that leads to the end of its region
pub data LeavesBy (core : Table) (corr : Correspondence) (home stage f : ℕ) (first : Configuration) (q : ℕ) : List Transition → Type 0 where
  leads_out : (w : Transition) (rest : List Transition) → verdict first.variables w.trigger ≡ Some true → w.effects ≡ [] →
      (state_at core (state_in core q w.target)).entered ≡ to q at.Ended ∷ [] →
      (staged : Option (ℕ × ℕ)) → IsStaged core home stage f first q staged → IsSilent corr q staged (access_of_trigger w.trigger) →
      LeavesBy core corr home stage f first q (w ∷ rest)
  fails_before : (w : Transition) (rest : List Transition) → verdict first.variables w.trigger ≡ Some false →
      (staged : Option (ℕ × ℕ)) → IsStaged core home stage f first q staged → IsSilent corr q staged (access_of_trigger w.trigger) →
      LeavesBy core corr home stage f first q rest → LeavesBy core corr home stage f first q (w ∷ rest)

-- where a thread stands that leaves, from the configuration in which the flag was raised
pub data MayLeave (core : Table) (corr : Correspondence) (home stage f : ℕ) (first : Configuration) (q : ℕ) : Standing → Type 0 where
  out : MayLeave core corr home stage f first q at.Outside
  over : MayLeave core corr home stage f first q at.Ended
  tries : (s : ℕ) (tests : List Transition) → inside core s ≡ [] → LeavesBy core corr home stage f first q tests →
      MayLeave core corr home stage f first q (at.Trying s tests)
  -- all regions of its superstate are there, and behind its fork it leaves
  forks : (s j b : ℕ) (tests : List Transition) → holder core s ≡ q →
      (state_at core (state_in core q j)).entered ≡ to q (at.Trying b tests) ∷ [] → inside core b ≡ [] →
      LeavesBy core corr home stage f first q tests →
      ((r : ℕ) → Contains (state_at core s).regions r → (around core r ≡ s ∷ around core q) × (standing_of first r ≢ at.Outside)) →
      MayLeave core corr home stage f first q (at.Within s (joins j ∷ []))
