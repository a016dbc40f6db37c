use Rattle.std.proofs.Common.{◌≡◌, ◌++◌, drop}
use Rattle.node_elements.specs.LoweringOrigins.{Origins, transitions}
use Rattle.node_elements.proofs.lowering.transitions.put_transitions.Given as goal

abbrev pub invariant-loop-transition : goal.invariant-loop-transition
invariant-loop-transition l =
    (rest : Origins) → l.fn.origins ++ transitions l.surface l.own l.fn.at rest ≡ l.origins ++ transitions l.surface (drop l.transition-index l.own)
    l.here rest
