-- What the moves of a fork make of what is inside, stated alone: it is for the structure of the expansion to give.
use Rattle.std.proofs.Common.{◌≡◌, ℕ, suc, ◌⊎◌, true, false, Some, List, [], ◌∷◌, length, Contains}
use Rattle.core_charts.specs.declared.region.Transition.{Transition}
use Rattle.core_charts.specs.Aborts.{has_aborts}
use Rattle.core_charts.specs.Tests.{first_closing_tests}
use Rattle.chart_machine.specs.declared.standing.Standing.{Standing}
use Rattle.chart_machine.specs.declared.standing.Standing.TheVariants as at
use Rattle.chart_machine.specs.declared.standing.Configuration.{Configuration}
use Rattle.chart_machine.specs.declared.table.Table.{Table}
use Rattle.chart_machine.specs.Table.{state_at}
use Rattle.chart_machine.specs.Turns.{standing_of, is_guarded}
use Rattle.chart_machine.specs.Steps.{moved, state_in}
use Rattle.abort_expansion.specs.Superstates.{stays}
use Rattle.chart_machine_laws.specs.Tree.{around, holder, IsThere}
use Rattle.abort_expansion_laws.specs.CoreRows.{own, IsState, IsSuper, joins, Images, flags_around}
use Rattle.abort_expansion_laws.specs.Related.{Watches, IsInside}
use Rattle.abort_expansion_laws.proofs.Leaving.{at_number}
use Rattle.abort_expansion_laws.proofs.Pending.{IsOpening, IsJoining, Over, Waits, Covered, still_going, Flagged, IsFresh, IsEmpty}

module _ (k core : Table) (i : Images) where
  -- e is d after the moves of the fork of s
  abbrev pub HasForked : Configuration → Configuration → ℕ → Type 0
  HasForked d e s = (t : ℕ) → Contains (around core t) (i.main_of s) → standing_of e t ≡ at_number (moved (state_at core (i.main_of s)).opened d.regions) t

  -- a superstate inside of it, or it itself
  abbrev pub WithinIt : ℕ → ℕ → Type 0
  WithinIt s u = (u ≡ s) ⊎ Contains (around k (holder k u)) s

  -- the superstate is open in the chart, nobody guards around it, and its fork was entered
  pub record Opens (c d e : Configuration) (s : ℕ) : Type 0 where
    pub tests : List Transition
    pub there : IsState k s
    pub chart_size : length c.regions ≡ suc (length k.regions)
    pub core_size : length d.regions ≡ suc (length core.regions)
    pub same_size : length e.regions ≡ length d.regions
    pub open_in_chart : standing_of c (holder k s) ≡ at.Within s tests
    pub untested : tests ≡ first_closing_tests (own k s)
    pub free : is_guarded k c (around k (holder k s)) ≡ false
    pub fresh : IsFresh k core i c s
    pub empty : IsEmpty k core i c d s
    pub forked : HasForked d e s
    -- where the superstate is split its thread is in the fork
    pub in_fork : stays (flags_around k core i (holder k s)) (own k s) ≡ false →
        (join : ℕ) × (state_in core (i.thread_of (holder k s)) join ≡ i.behind_of s)
        × (standing_of e (i.thread_of (holder k s)) ≡ at.Within (i.main_of s) (joins join ∷ []))

  pub record OpenedRows : Type 0 where
    pub waits : (c d e : Configuration) (s : ℕ) → Opens c d e s → (q : ℕ) → IsThere k q → Contains (around k q) s → Waits k core i c e q
    pub watchers : (c d e : Configuration) (s : ℕ) → Opens c d e s → (o : ℕ) → IsState k o → has_aborts (own k o) ≡ true → WithinIt s o →
        Watches k core i o (standing_of c (holder k o)) (standing_of e (i.watcher_of o)) ⊎
        ((standing_of e (i.watcher_of o) ≡ at.Outside) × Covered k core i c e o)
    pub flags : (c d e : Configuration) (s : ℕ) → Opens c d e s → (u : ℕ) → IsState k u → IsInside k core i u (standing_of c (holder k u)) →
        Contains (around k (holder k u)) s →
        Flagged k core i c e u ⊎ Covered k core i c e u
    pub all_go : (c d e : Configuration) (s x : ℕ) → Opens c d e s → (i.flags_of s).counter ≡ Some x →
        still_going k core i c e (state_at k s).regions ≡ length (state_at k s).regions
    pub within : (c d e : Configuration) (s : ℕ) → Opens c d e s → (u : ℕ) → IsOpening k core i c e u → Contains (around k (holder k u)) s →
        IsFresh k core i c u × (IsEmpty k core i c e u × (is_guarded k c (around k (holder k u)) ≡ false))
    -- one with aborts is not opened at once
    pub covered : (c d e : Configuration) (s : ℕ) → Opens c d e s → (u : ℕ) → has_aborts (own k u) ≡ true → Contains (around k (holder k u)) s →
        IsInside k core i u (standing_of c (holder k u)) → Covered k core i c e u
    pub joinable : (c d e : Configuration) (s : ℕ) → Opens c d e s → (u : ℕ) → IsJoining k core i c e u → Contains (around k (holder k u)) s →
        Over k core i c e u

-- what the moves of a fork leave as it is
pub record ForkRows (k core : Table) (i : Images) : Type 0 where
  pub opens_inside : (s t : ℕ) (zs : List Standing) → IsState k s → IsSuper k s → ¬ Contains (around core t) (i.main_of s) →
      at_number (moved (state_at core (i.main_of s)).opened zs) t ≡ at_number zs t
