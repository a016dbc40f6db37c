use Rattle.std.proofs.Common.{◌≡◌, ◌++◌, map, drop}
use Rattle.chart_reduction.specs.Constants.{valued_region, valued_state}
use Rattle.chart_reduction.proofs.values.constants.+inside.Given as goal

abbrev pub invariant-put_regions-loop-region : goal.invariant-put_regions-loop-region
invariant-put_regions-loop-region l =
    l.made ++ map (valued_region l.reading) (drop l.region-index l.regions)
    ≡ l.fn.made ++ map (valued_region l.reading) l.regions

abbrev pub invariant-put_states-loop-state : goal.invariant-put_states-loop-state
invariant-put_states-loop-state l =
    l.made ++ map (valued_state l.reading) (drop l.state-index l.states)
    ≡ l.fn.made ++ map (valued_state l.reading) l.states
