use Rattle.std.proofs.Common.{◌≡◌, ◌++◌, map, drop}
use Rattle.extended_charts.specs.Holds.{held_region, held_state}
use Rattle.extended_charts.proofs.holds.+held.Given as goal

abbrev pub invariant-put_regions-loop-region : goal.invariant-put_regions-loop-region
invariant-put_regions-loop-region l =
    l.made ++ map held_region (drop l.region-index l.regions) ≡ l.fn.made ++ map held_region l.regions

abbrev pub invariant-put_states-loop-state : goal.invariant-put_states-loop-state
invariant-put_states-loop-state l =
    l.made ++ map held_state (drop l.state-index l.states) ≡ l.fn.made ++ map held_state l.states
