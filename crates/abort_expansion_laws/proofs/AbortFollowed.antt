-- An abort is taken: its step is followed, with effects and without.
use Rattle.std.proofs.Common.{◌≡◌, ℕ, ◌<◌, Bool, Option, List, [], ◌∷◌, length, Contains}
use Rattle.sc_values.specs.Access.{Access}
use Rattle.core_charts.specs.declared.region.Effect.{Effect}
use Rattle.core_charts.specs.declared.region.Transition.{Transition}
use Rattle.chart_machine.specs.declared.standing.Configuration.{Configuration}
use Rattle.chart_machine.specs.declared.table.Table.{Table}
use Rattle.chart_machine.specs.Table.{state_at, region_at}
use Rattle.chart_machine.specs.Turns.{inside}
use Rattle.chart_machine.specs.Steps.{state_in, moved, acts, access_of_trigger}
use Rattle.abort_expansion.specs.Transitions.{put}
use Rattle.abort_expansion_laws.specs.Stages.{Entry, Watched, Silent}
use Rattle.chart_machine_laws.proofs.LyingIn.{IsNested, around, holder}
use Rattle.abort_expansion_laws.specs.CoreRows.{IsState, Images, CoreRows}
use Rattle.abort_expansion_laws.specs.Related.{Related}
use Rattle.abort_expansion_laws.proofs.InsideLeaves.{AloneRows}
use Rattle.abort_expansion_laws.proofs.Leaving.{drops}
use Rattle.abort_expansion_laws.proofs.StartingRegions.{CounterRows}
use Rattle.abort_expansion_laws.proofs.EffectAhead.{BeginsAt}
use Rattle.abort_expansion_laws.proofs.Owed.{Enters}
use Rattle.abort_expansion_laws.proofs.AbortNext.{AbortNext}
use Rattle.abort_expansion_laws.proofs.AbortAnswered as answered
use Rattle.abort_expansion_laws.proofs.SuperstateLeft as left_for

module _ (k core : Table) (i : Images) (rows : CoreRows k core i) (more : AloneRows k core i) (tree : IsNested k) (core_tree : IsNested core)
    (deep : (q s : ℕ) → Contains (around core q) s → holder core s < q)
    (core_children : (s r : ℕ) → Contains (state_at core s).regions r → around core r ≡ s ∷ around core (holder core s))
    (children : (s r : ℕ) → Contains (state_at k s).regions r → around k r ≡ s ∷ around k (holder k s))
    (counts : ℕ → Bool) (written_at : ℕ → ℕ) (Told : Configuration → Entry → Type 0)
    (told : (e : Configuration) (t : ℕ) (at_stage : Option (ℕ × ℕ)) (a : Access) → Told e (Silent t at_stage a))
    (c d : Configuration) (related : Related k core i c d) (r o stage x : ℕ) (t : Transition)
    (next : AbortNext k core i rows tree counts written_at c d r o stage x t)
    (told_test : Told d (Watched r (i.watcher_of o) stage (access_of_trigger t.trigger))) (target_there : t.target < length (region_at k r).states)
    (last : Configuration)
    (leads : last ≡ record { variables = c.variables; regions = moved (acts k r o t.effects t.target) (moved (drops (inside k o)) c.regions) }) where
  abbrev pub Follows : Type 0
  Follows = left_for.Followed k core i rows tree counts written_at Told c d r o t last (Related k core i last)

  -- it goes on with its effects
  pub with_effects : (e : Effect) (es : List Effect) → t.effects ≡ e ∷ es → Follows
  with_effects e es some =
      let first = answered.first k core i rows more tree core_tree deep core_children children counts written_at Told told c d related r o stage x t
      next told_test e es
      target_there in
      left_for.with_effects k core i rows tree counts written_at Told c d r o t (i.behind_of o) first.last.variables first.last.regions last leads e es
      (answered.related1 k core i rows more tree core_tree deep core_children children counts written_at Told told c d related r o stage x t next
      told_test e es target_there)
      (answered.abort_followed k core i rows more tree core_tree deep core_children children counts written_at Told told c d related r o stage x t
      next told_test e es target_there) some

  -- it has none, and enters its target
  pub without_effects : (enters : Enters k core i rows tree counts written_at Told) (counters : CounterRows k core i rows counts written_at)
      (super_there : (q s : ℕ) → Contains (around k q) s → IsState k s) →
      BeginsAt r (state_at k (state_in k r t.target)).entered → BeginsAt (i.thread_of r) (state_at core (i.entry_of (state_in k r t.target))).entered →
      t.effects ≡ [] → Follows
  without_effects enters counters super_there chart_first core_first none =
      let first = answered.first k core i rows more tree core_tree deep core_children children counts written_at Told told c d related r o stage x t
      next told_test (put 0 0) []
      target_there in
      left_for.without_effects k core i rows tree counts written_at Told c d r o t (i.behind_of o) first.last.variables first.last.regions last leads
      told enters counters super_there target_there chart_first core_first
      (answered.here k core i rows more tree core_tree deep core_children children counts written_at Told told c d related r o stage x t next
      told_test (put 0 0) [] target_there)
      (answered.free1 k core i rows more tree core_tree deep core_children children counts written_at Told told c d related r o stage x t next
      told_test (put 0 0) [] target_there)
      (answered.related1 k core i rows more tree core_tree deep core_children children counts written_at Told told c d related r o stage x t next
      told_test (put 0 0) [] target_there)
      (answered.abort_followed k core i rows more tree core_tree deep core_children children counts written_at Told told c d related r o stage x t
      next told_test (put 0 0) [] target_there) none
