use Rattle.std.proofs.Common.{All}
use Rattle.ready_queue.specs.Rule.{IsPassOf}
use Rattle.library_rows.proofs.queues.ports_of.Given as goal

abbrev pub invariant-loop : goal.invariant-loop
invariant-loop l = All (λ p. IsPassOf l.queue p) l.passes.items
