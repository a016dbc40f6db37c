use Rattle.std.proofs.Common.{◌≡◌, map, drop}
use Rattle.sc_graph.specs.declared.control.Status.TheVariants.{Absent}
use Rattle.sc_graph.specs.Steps.{moved}
use Rattle.tick_core.proofs.stepping.dismiss_all.Given as goal

abbrev pub invariant-loop-child : goal.invariant-loop-child
invariant-loop-child l =
    moved (map (λ k. (k, Absent)) (drop l.child-index l.children)) l.statuses
    ≡ moved (map (λ k. (k, Absent)) l.children) l.initial.statuses
