use Rattle.std.proofs.Common.{◌≡◌, ◌++◌, map, drop}
use Rattle.core_charts.specs.declared.region.Region.TheViews.{out-State}
use Rattle.core_charts.proofs.rules.state_names.Given as goal

abbrev pub invariant-loop-state : goal.invariant-loop-state
invariant-loop-state l = l.names.items ++ map (λ x. (out-State x).name) (drop l.state-index l.states) ≡ map (λ x. (out-State x).name) l.states
