use Rattle.std.proofs.Common.{◌≡◌, ◌++◌, map, drop}
use Rattle.chart_machine.specs.Table.{subtree_of_region, subtree_of_state, both, side_by_side, in_region}
use Rattle.chart_machine.proofs.tabling.+parts.Given as goal

abbrev pub invariant-put_side_by_side-loop-region : goal.invariant-put_side_by_side-loop-region
invariant-put_side_by_side-loop-region l =
    both l.rows (side_by_side (map subtree_of_region (drop l.region-index l.regions)) l.here) ≡
    both l.fn.rows (side_by_side (map subtree_of_region l.regions) l.initial.here)

abbrev pub invariant-put_states-loop-state : goal.invariant-put_states-loop-state
invariant-put_states-loop-state l = record {
  states :
      l.rows.states ++ (in_region (map subtree_of_state (drop l.state-index l.states)) l.next l.here).states ≡
      l.fn.rows.states ++ (in_region (map subtree_of_state l.states) l.initial.next l.initial.here).states;
  regions :
      l.rows.regions ++ (in_region (map subtree_of_state (drop l.state-index l.states)) l.next l.here).first ≡
      l.fn.rows.regions ++ (in_region (map subtree_of_state l.states) l.initial.next l.initial.here).first;
  others :
      l.others ++ (in_region (map subtree_of_state (drop l.state-index l.states)) l.next l.here).others ≡
      l.fn.others ++ (in_region (map subtree_of_state l.states) l.initial.next l.initial.here).others;
  entered :
      l.rows.entered ++ (in_region (map subtree_of_state (drop l.state-index l.states)) l.next l.here).entered ≡
      l.fn.rows.entered ++ (in_region (map subtree_of_state l.states) l.initial.next l.initial.here).entered;
}
