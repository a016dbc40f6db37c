use Rattle.std.proofs.Common.{◌≡◌, ◌++◌, map, drop}
use Rattle.sc_text.proofs.parts.names_of.Given as goal

abbrev pub invariant-loop-variable : goal.invariant-loop-variable
invariant-loop-variable l = l.names.items ++ map (λ x. x.name) (drop l.variable-index l.variables) ≡ map (λ x. x.name) l.variables
