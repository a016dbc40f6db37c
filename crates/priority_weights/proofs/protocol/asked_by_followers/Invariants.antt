use Rattle.std.proofs.Common.{◌≡◌, get_or}
use Rattle.sc_graph.specs.Threads.{ConcurrentNodes}
use Rattle.priority_weights.specs.Inside.Next.{IsAsked}
use Rattle.priority_weights.proofs.Asking.{Before}
use Rattle.priority_weights.proofs.protocol.asked_by_followers.Given as goal

abbrev pub invariant-loop-follower : goal.invariant-loop-follower
invariant-loop-follower l = IsAsked (Before (λ i n. (n ≡ get_or l.followers i 0) × ConcurrentNodes l.edges l.node n) l.follower-index) l.table 1 l.asked
