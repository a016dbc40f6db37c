use Rattle.std.proofs.Common.{◌≡◌, ◌+◌, map, drop}
use Rattle.chart_machine.specs.Table.{subtree_of_region, subtree_of_state, regions_in}
use Rattle.chart_machine.proofs.numbering.+regions.Given as goal

abbrev pub invariant-past_regions-loop-region : goal.invariant-past_regions-loop-region
invariant-past_regions-loop-region l =
    l.past + regions_in (map subtree_of_region (drop l.region-index l.region-items)) ≡ l.next + (subtree_of_state l.state).regions

abbrev pub invariant-past_region-loop-state : goal.invariant-past_region-loop-state
invariant-past_region-loop-state l =
    l.past + regions_in (map subtree_of_state (drop l.state-index l.state-items)) ≡ l.next + (subtree_of_region l.region).regions
