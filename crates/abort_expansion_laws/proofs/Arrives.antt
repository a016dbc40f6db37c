-- A region comes to where something begins, and so does its thread: what the laws of entering ask of such a step.
use Rattle.std.proofs.Common.{◌≡◌, ◌≢◌, ℕ, suc, ◌≤◌, true, false, length, Contains}
use Rattle.chart_machine.specs.declared.standing.Standing.TheVariants as at
use Rattle.chart_machine.specs.declared.standing.Configuration.{Configuration}
use Rattle.chart_machine.specs.declared.table.Table.{Table}
use Rattle.chart_machine.specs.Turns.{standing_of, has_ended, has_work, is_guarded, LiesIn}
use Rattle.chart_machine_laws.specs.Tree.{IsThere, around, holder}
use Rattle.abort_expansion_laws.specs.CoreRows.{Images}
use Rattle.abort_expansion_laws.specs.StageReached.{stage_of}
use Rattle.abort_expansion_laws.proofs.BeginningSorts.{Sort}
use Rattle.abort_expansion_laws.proofs.JustEntered.{EntryRows}
use Rattle.abort_expansion_laws.proofs.ChartEntered.{Stood}

-- nobody guards region r, which has work, and nobody lies in it; who does not lie in it stays, and so do the variables
pub record Arrives (k core : Table) (i : Images) (more : EntryRows k core i) (c d : Configuration) (r : ℕ) (next core_next : Configuration) : Type 0 where
  pub there : IsThere k r
  pub present : standing_of c r ≢ at.Outside
  pub going : has_ended (standing_of c r) ≡ false
  pub works : has_work k c (standing_of c r) ≡ true
  pub low : stage_of k c (standing_of c r) ≤ 1
  pub free : is_guarded k c (around k r) ≡ false
  pub none : (q s : ℕ) → Contains (around k q) s → holder k s ≡ r → standing_of c q ≡ at.Outside
  pub chart_regions : length next.regions ≡ suc (length k.regions)
  pub core_regions : length core_next.regions ≡ suc (length core.regions)
  pub chart_values : next.variables ≡ c.variables
  pub core_values : core_next.variables ≡ d.variables
  pub unchanged : (q : ℕ) → ¬ LiesIn k q r → standing_of next q ≡ standing_of c q
  pub core_unchanged : (t : ℕ) → ¬ LiesIn core t (i.thread_of r) → standing_of core_next t ≡ standing_of d t
  -- where it comes to
  pub goes : has_ended (standing_of next r) ≡ false
  pub stood : Stood k core i more (standing_of next) r
  pub sort : Sort k core i more.rows (suc (length k.regions)) (suc (length core.regions)) (standing_of next) (standing_of core_next) r
