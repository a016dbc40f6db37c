use Rattle.std.proofs.Common.{ℕ, ◌<◌, get_or}
use Rattle.sc_graph.specs.Threads.{ConcurrentNodes}
use Rattle.priority_weights.specs.Inside.Next.{IsRanked}
use Rattle.priority_weights.proofs.protocol.ranked_follower.Given as goal

abbrev pub invariant-loop-follower : goal.invariant-loop-follower
invariant-loop-follower l = (k : ℕ) → k < l.follower-index → ConcurrentNodes l.edges l.node (get_or l.followers k 0)
    → ¬ IsRanked l.ranks l.below (get_or l.followers k 0)
