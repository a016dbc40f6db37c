-- Which stages may be reached for the thread of a region that holds a superstate, by the chart's configuration alone.
use Rattle.std.specs.Prelude.{ℕ, ◌≡◌, ◌≤◌, Bool, if◌then◌else◌}
use Rattle.std.specs.List.{list_any}
use Rattle.core_charts.specs.Tests.{is_weak}
use Rattle.core_charts.specs.Aborts.{has_aborts}
use Rattle.chart_machine.specs.declared.standing.Standing.{Standing}
use Rattle.chart_machine.specs.declared.standing.Standing.TheVariants as at
use Rattle.chart_machine.specs.declared.standing.Configuration.{Configuration}
use Rattle.chart_machine.specs.declared.table.Table.{Table}
use Rattle.chart_machine.specs.Turns.{standing_of, has_work, inside}
use Rattle.chart_machine_laws.specs.Tree.{IsThere}
use Rattle.abort_expansion_laws.specs.CoreRows.{own}

module _ (k : Table) where
  -- somebody inside a superstate has something left to do
  abbrev pub some_work : Configuration → ℕ → Bool
  some_work c s = list_any (λ r. has_work k c (standing_of c r)) (inside k s)

  -- of the region that holds a superstate with aborts. Others have stage 1 alone, by what is inside of their superstates
  abbrev pub stage_of : Configuration → Standing → ℕ
  stage_of c (at.Guarding s tests) = 0
  stage_of c (at.Within s tests) = if has_aborts (own k s) then (if some_work c s then 1 else (if list_any (λ t. is_weak t.kind) tests then 2 else 3)) else 1
  stage_of c other = 1

module _ (k : Table) (thread_of : ℕ → ℕ) where
  -- of the thread of a region that holds a superstate; the chart counts as one whose inside has the turn
  pub record Stage (c d : Configuration) (h s : ℕ) : Type 0 where
    pub regions : (r : ℕ) → IsThere k r → h ≡ thread_of r → s ≤ stage_of k c (standing_of c r)
    pub chart : h ≡ thread_of 0 → s ≤ 1
