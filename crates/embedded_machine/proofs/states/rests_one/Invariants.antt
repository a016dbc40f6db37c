use Rattle.std.proofs.Common.{◌≡◌, drop}
use Rattle.std.specs.List.{list_any}
use Rattle.node_states.specs.Active.{is_number, rests_in}
use Rattle.embedded_machine.proofs.states.rests_one.Given as goal

abbrev pub invariant-loop-status : goal.invariant-loop-status
invariant-loop-status l =
    list_any (λ s. is_number l.number (rests_in l.nodes s)) (drop l.status-index l.statuses)
    ≡ list_any (λ s. is_number l.number (rests_in l.nodes s)) l.statuses
