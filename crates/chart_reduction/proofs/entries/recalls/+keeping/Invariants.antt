use Rattle.std.proofs.Common.{◌≡◌, ◌++◌, map, drop}
use Rattle.chart_reduction.specs.Histories.{kept_in, kept_among, past_region, past_state}
use Rattle.chart_reduction.proofs.entries.recalls.+keeping.Given as goal

abbrev pub invariant-put_kept_in-loop-region : goal.invariant-put_kept_in-loop-region
invariant-put_kept_in-loop-region l =
    l.made ++ kept_in l.is_recalled (map past_region (drop l.region-index l.regions))
    ≡ l.fn.made ++ kept_in l.is_recalled (map past_region l.regions)

abbrev pub invariant-put_kept_among-loop-state : goal.invariant-put_kept_among-loop-state
invariant-put_kept_among-loop-state l =
    l.made ++ kept_among l.recalled l.place (map past_state (drop l.state-index l.states))
    ≡ l.fn.made ++ kept_among l.recalled 0 (map past_state l.states)
