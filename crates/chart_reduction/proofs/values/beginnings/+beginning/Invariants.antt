use Rattle.std.proofs.Common.{◌≡◌, map, drop}
use Rattle.chart_reduction.specs.Endings.{all_at_once, some_true, begins_so}
use Rattle.chart_reduction.proofs.values.beginnings.+beginning.Given as goal

abbrev pub invariant-all_at_once-loop-region : goal.invariant-all_at_once-loop-region
invariant-all_at_once-loop-region l = all_at_once (drop l.region-index l.regions) ≡ all_at_once l.regions

abbrev pub invariant-some_at_once-loop-state : goal.invariant-some_at_once-loop-state
invariant-some_at_once-loop-state l = some_true (map begins_so (drop l.state-index l.states)) ≡ some_true (map begins_so l.states)
