use Rattle.std.proofs.Common.{◌≡◌, ◌+◌, ◌≤◌, count_by, drop}
use Rattle.core_charts.specs.Tests.{is_join}
use Rattle.core_charts.proofs.rules.join_count.Given as goal

abbrev pub invariant-loop-transition : goal.invariant-loop-transition
invariant-loop-transition l =
    (l.count + count_by (λ t. is_join t.kind) (drop l.transition-index l.transitions) ≡ count_by (λ t. is_join t.kind) l.transitions) ×
    (l.count ≤ l.transition-index)
