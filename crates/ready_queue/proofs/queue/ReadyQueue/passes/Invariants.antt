use Rattle.std.proofs.Common.{◌≡◌, ◌+◌, [], All, length}
use Rattle.ready_queue.specs.Order.{hand}
use Rattle.ready_queue.specs.Rule.{hand_of, IsPassOf}
use Rattle.ready_queue.proofs.queue.ReadyQueue.passes.Given as goal

abbrev pub invariant-loop : goal.invariant-loop
invariant-loop l =
    (length l.all.items + 1 ≡ l.counter) × IsPassOf l.self l.first × (hand_of l.first ≡ hand [] [])
    × All (λ p. IsPassOf l.self p × (hand_of p ≡ hand [] [])) l.all.items
