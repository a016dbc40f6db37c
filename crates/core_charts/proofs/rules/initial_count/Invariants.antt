use Rattle.std.proofs.Common.{◌≡◌, ◌+◌, ◌≤◌, count_by, drop}
use Rattle.core_charts.specs.declared.region.Region.TheViews.{out-State}
use Rattle.core_charts.proofs.rules.initial_count.Given as goal

abbrev pub invariant-loop-state : goal.invariant-loop-state
invariant-loop-state l =
    (l.count + count_by (λ s. (out-State s).is_initial) (drop l.state-index l.states) ≡ count_by (λ s. (out-State s).is_initial) l.states) ×
    (l.count ≤ l.state-index)
