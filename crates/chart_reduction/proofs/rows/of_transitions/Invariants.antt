use Rattle.std.proofs.Common.{◌≡◌, ◌++◌, map, drop}
use Rattle.chart_reduction.proofs.rows.of_transitions.Given as goal

abbrev pub invariant-loop : goal.invariant-loop
invariant-loop l =
    l.made ++ map (λ t. l.is_own) (drop l.index l.transitions) ≡ map (λ t. l.is_own) l.transitions
