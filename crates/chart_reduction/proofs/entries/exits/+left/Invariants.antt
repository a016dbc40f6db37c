use Rattle.std.proofs.Common.{◌≡◌, ◌++◌, length, map, drop}
use Rattle.chart_reduction.specs.Exits.{all_regions, all_states, all_behind, left_region, left_state}
use Rattle.chart_reduction.proofs.entries.exits.+left.Given as goal

abbrev pub invariant-put_regions-loop-region : goal.invariant-put_regions-loop-region
invariant-put_regions-loop-region l =
    l.made ++ all_regions l.x (map left_region (drop l.region-index l.regions))
    ≡ l.fn.made ++ all_regions l.first (map left_region l.regions)

abbrev pub invariant-put_states-loop-state : goal.invariant-put_states-loop-state
invariant-put_states-loop-state l = record {
  states :
      l.made ++ all_states l.own l.number l.x l.place (map left_state (drop l.state-index l.states))
      ≡ l.fn.made ++ all_states l.own 1 l.first (length l.states) (map left_state l.states);
  behind :
      l.behind ++ all_behind l.own l.x l.place (map left_state (drop l.state-index l.states))
      ≡ l.fn.behind ++ all_behind l.own l.first (length l.states) (map left_state l.states);
}
