use Rattle.std.proofs.Common.{◌≡◌, map, drop}
use Rattle.core_charts.specs.Aborts.{some_of, region_has_aborts, state_has_aborts}
use Rattle.core_charts.proofs.aborts.+aborts.Given as goal

abbrev pub invariant-have_aborts-loop-region : goal.invariant-have_aborts-loop-region
invariant-have_aborts-loop-region l =
    some_of (map region_has_aborts (drop l.region-index l.regions)) ≡ some_of (map region_has_aborts l.regions)

abbrev pub invariant-region_has_aborts-loop-state : goal.invariant-region_has_aborts-loop-state
invariant-region_has_aborts-loop-state l =
    some_of (map state_has_aborts (drop l.state-index l.state-items)) ≡ region_has_aborts l.region
