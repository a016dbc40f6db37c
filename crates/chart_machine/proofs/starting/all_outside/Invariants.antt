use Rattle.std.proofs.Common.{◌≡◌, ◌++◌, ◌∷◌, map, drop}
use Rattle.chart_machine.specs.declared.standing.Standing.TheVariants as at
use Rattle.chart_machine.proofs.starting.all_outside.Given as goal

abbrev pub invariant-loop-row : goal.invariant-loop-row
invariant-loop-row l =
    l.regions ++ map (λ r. at.Outside) (drop l._row-index l.rows) ≡ at.Outside ∷ map (λ r. at.Outside) l.rows
