use Rattle.std.proofs.Common.{◌≡◌, map, drop}
use Rattle.sc_graph.specs.Program.{entry_of}
use Rattle.sc_graph.specs.Steps.{enters, moved}
use Rattle.tick_core.proofs.stepping.enter_all.Given as goal

abbrev pub invariant-loop-child : goal.invariant-loop-child
invariant-loop-child l =
    moved (map (λ k. enters k (entry_of l.program k)) (drop l.child-index l.children)) l.statuses
    ≡ moved (map (λ k. enters k (entry_of l.program k)) l.children) l.initial.statuses
