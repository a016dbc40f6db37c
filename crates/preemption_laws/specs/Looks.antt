-- The looks of the core chart of a chart: the weak checks that stand last among the transitions of a state; and what is known of them.
use Rattle.std.specs.Prelude.{◌≡◌, ℕ, zero, suc, ◌⊎◌, Bool, true, false, not, ◌&&◌, nat_eq, Some, if◌then◌else◌, List, [], ◌∷◌, ◌++◌, map, length, Contains}
use Rattle.core_charts.specs.declared.region.Effect.{Effect}
use Rattle.core_charts.specs.declared.region.Transition.{Transition}
use Rattle.core_charts.specs.Aborts.{has_aborts}
use Rattle.core_charts.specs.Tests.{strong_aborts, weak_aborts}
use Rattle.chart_machine.specs.declared.standing.Standing.TheVariants as at
use Rattle.chart_machine.specs.declared.table.Table.{Table}
use Rattle.chart_machine.specs.Table.{state_at}
use Rattle.chart_machine.specs.Steps.{to, state_in}
use Rattle.abort_expansion.specs.Flags.{has_join}
use Rattle.abort_expansion.specs.Transitions.{put, is_raised, go, weak_checks}
use Rattle.abort_expansion.specs.Superstates.{stays}
use Rattle.chart_machine_laws.specs.Tree.{around, holder}
use Rattle.abort_expansion_laws.specs.CoreRows.{own, is_final, Images, flags_around}

-- a look at a flag: if it is raised the state is left for this place
abbrev pub look : (left x : ℕ) → Transition
look left x = go true (Some (is_raised x)) [] left

-- what is known of a table in which states have such looks
pub record Looks (k : Table) (looks : ℕ → List Transition) : Type 0 where
  -- the flags that a state looks at, in this order, and where it goes if one of them is raised
  pub seen : ℕ → List ℕ
  pub left : ℕ → ℕ
  pub are_looks : (s : ℕ) → looks s ≡ map (look (left s)) (seen s)
  -- they are the last transitions of the state, which is a simple one
  pub others : ℕ → List Transition
  pub stand_last : (s : ℕ) → own k s ≡ others s ++ looks s
  pub no_regions : (s x : ℕ) → Contains (seen s) x → (state_at k s).regions ≡ []
  -- the state for which it is left ends the region
  pub ends_there : (s x : ℕ) → Contains (seen s) x → (state_at k (state_in k (holder k s) (left s))).entered ≡ to (holder k s) at.Ended ∷ []
  -- the superstate of a flag is around each state that looks at it
  pub superstate_of : ℕ → ℕ
  pub lies_inside : (s x : ℕ) → Contains (seen s) x → Contains (around k (holder k s)) (superstate_of x)
  -- the flag is raised, or it is set by the region that holds its superstate
  pub sets : (s x u : ℕ) (t : Transition) (e : Effect) → Contains (seen s) x → Contains (own k u) t → Contains t.effects e → e.variable ≡ x →
      ((n : ℕ) × (e ≡ put x (suc n))) ⊎ (holder k u ≡ holder k (superstate_of x))
  -- no state has aborts
  pub no_strong : (s : ℕ) → strong_aborts (own k s) ≡ []
  pub no_weak : (s : ℕ) → weak_aborts (own k s) ≡ []

-- ---- of the core chart of a chart

module _ (k core : Table) (i : Images) where
  abbrev pub is_empty : {A : Type 0} → List A → Bool
  is_empty [] = true
  is_empty (x ∷ xs) = false

  -- the weak checks of the thread of region r
  abbrev pub checks_of : ℕ → List Transition
  checks_of r = weak_checks true (i.places_of r).left (flags_around k core i r)

  -- those of the monitor of superstate s
  abbrev pub monitor_checks : ℕ → List Transition
  monitor_checks s = weak_checks true 1 (flags_around k core i (holder k s))

  -- whether a state is simple; whether it is split, and has no termination; whether it has a monitor
  abbrev pub waits_itself : ℕ → Bool
  waits_itself s = is_empty (state_at k s).regions && not (is_final k s)

  abbrev pub waits_behind : ℕ → Bool
  waits_behind s = not (is_empty (state_at k s).regions) && (not (stays (flags_around k core i (holder k s)) (own k s)) && not (has_join (own k s)))

  -- the looks of core state n, if it stands for one of the first states, so many
  abbrev pub looks_among : (states n : ℕ) → List Transition
  looks_among zero n = []
  looks_among (suc s) n =
      if nat_eq n (i.main_of s) && waits_itself s
      then checks_of (holder k s)
      else (if nat_eq n (i.behind_of s) && waits_behind s
      then checks_of (holder k s)
      else (if nat_eq n (i.watching_of s) && has_aborts (own k s) then monitor_checks s else looks_among s n))

  abbrev pub looks_of : ℕ → List Transition
  looks_of = looks_among (length k.states)
