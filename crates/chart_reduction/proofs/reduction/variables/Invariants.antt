use Rattle.std.proofs.Common.{◌≡◌, ◌++◌, map, drop}
use Rattle.chart_reduction.proofs.reduction.variables.Given as goal

abbrev pub invariant-loop-one : goal.invariant-loop-one
invariant-loop-one l =
    l.made ++ map (λ d. d.variable) (drop l.one-index l.declared) ≡ map (λ d. d.variable) l.declared
