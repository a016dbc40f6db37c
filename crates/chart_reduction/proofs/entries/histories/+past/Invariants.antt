use Rattle.std.proofs.Common.{◌≡◌, ◌++◌, map, drop}
use Rattle.chart_reduction.specs.Histories.{all_regions, all_states, past_region, past_state}
use Rattle.chart_reduction.proofs.entries.histories.+past.Given as goal

abbrev pub invariant-put_regions-loop-region : goal.invariant-put_regions-loop-region
invariant-put_regions-loop-region l =
    l.made ++ all_regions l.history l.x (map past_region (drop l.region-index l.regions))
    ≡ l.fn.made ++ all_regions l.history l.first (map past_region l.regions)

abbrev pub invariant-put_states-loop-state : goal.invariant-put_states-loop-state
invariant-put_states-loop-state l =
    l.made ++ all_states l.at l.recalled l.place l.x (map past_state (drop l.state-index l.states))
    ≡ l.fn.made ++ all_states l.at l.recalled 0 l.first (map past_state l.states)
