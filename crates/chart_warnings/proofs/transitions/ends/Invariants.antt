use Rattle.std.proofs.Common.{◌≡◌, drop}
use Rattle.std.specs.List.{list_any}
use Rattle.core_charts.specs.declared.region.Region.TheViews.{out-Region, out-State}
use Rattle.chart_warnings.proofs.transitions.ends.Given as goal

abbrev pub invariant-loop-state : goal.invariant-loop-state
invariant-loop-state l =
    list_any (λ s. (out-State s).is_final) (drop l.state-index l.state-items) ≡ list_any (λ s. (out-State s).is_final) (out-Region l.region).states
