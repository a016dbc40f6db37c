use Rattle.std.proofs.Common.{◌≡◌, ◌++◌, None, map, drop}
use Rattle.node_states.proofs.transitions.lay_effects.Given as goal

abbrev pub invariant-loop : goal.invariant-loop
invariant-loop l = l.nodes ++ map (λ _. None) (drop l.index l.effects) ≡ l.fn.nodes ++ map (λ _. None) l.effects
