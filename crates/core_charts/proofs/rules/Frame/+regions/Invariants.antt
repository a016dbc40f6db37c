use Rattle.std.proofs.Common.{ℕ, ◌≡◌, ◌<◌, ◌-◌, Some, length, slice_get}
use Rattle.core_charts.specs.declared.region.State.{State}
use Rattle.core_charts.specs.declared.region.Region.{Region}
use Rattle.core_charts.specs.Rules.{IsState, IsRegion, AreRegions}
use Rattle.core_charts.proofs.rules.Frame.+regions.Given as goal

abbrev pub invariant-are_regions-loop-region : goal.invariant-are_regions-loop-region
invariant-are_regions-loop-region l =
    (i : ℕ) (r : Region) → i < l.region-index → slice_get l.regions i ≡ Some r →
    IsRegion l.self.features l.self.variables.now (AreRegions l.self.features l.self.variables.now (l.levels - 1)) r

abbrev pub invariant-are_states-loop-state : goal.invariant-are_states-loop-state
invariant-are_states-loop-state l =
    (i : ℕ) (s : State) → i < l.state-index → slice_get l.states i ≡ Some s →
    IsState l.self.features l.self.variables.now (AreRegions l.self.features l.self.variables.now l.levels) (length l.states) s
