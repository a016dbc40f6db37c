use Rattle.std.proofs.Common.{◌≡◌, suc, ◌+◌, map, drop}
use Rattle.chart_lowering.specs.Lowering.{labels_in, labels_in_states, piece_of_region, piece_of_state}
use Rattle.core_charts.specs.declared.region.Region.TheViews.{out-State}
use Rattle.chart_lowering.proofs.counting.+counting.Given as goal

abbrev pub invariant-region_labels-loop-state : goal.invariant-region_labels-loop-state
invariant-region_labels-loop-state l =
    l.labels + labels_in_states (map piece_of_state (drop l.state-index l.state-items)) ≡ (piece_of_region l.region).labels

abbrev pub invariant-state_labels-loop-region : goal.invariant-state_labels-loop-region
invariant-state_labels-loop-region l =
    l.labels + labels_in (map piece_of_region (drop l.region-index l.region-items)) ≡ suc (labels_in (map piece_of_region (out-State l.state).regions))
