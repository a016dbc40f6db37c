use Rattle.std.proofs.Common.{◌≡◌, ◌++◌, map, drop}
use Rattle.tick_core.proofs.state.first_rows.kinds_of.Given as goal

abbrev pub invariant-loop-variable : goal.invariant-loop-variable
invariant-loop-variable l =
    l.found.items ++ map (λ v. v.kind) (drop l.variable-index l.variable-items) ≡ map (λ v. v.kind) l.variable-items
