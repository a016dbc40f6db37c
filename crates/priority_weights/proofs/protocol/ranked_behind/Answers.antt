use Rattle.std.proofs.Common.{inl, inr}
use Rattle.priority_weights.proofs.Asking.{answer_turned}
use Rattle.priority_weights.proofs.Ordering.{protocol_edges}
use Rattle.priority_weights.proofs.protocol.ranked_behind.Goals as goal

pub returns-in-Some : goal.returns-in-Some
returns-in-Some c =
    let found = rw c.in-Some.is at c.ranked_follower.ensures in
    let is = protocol_edges c.args.edges.now c.args.node c.followers-followers.result c.followers-followers.ensures c.in-Some.found in
    (is.0 (inl found.0), found.1)

pub returns-in-None : goal.returns-in-None
returns-in-None c =
    let none = rw c.in-None.is at c.ranked_follower.ensures in
    let is = protocol_edges c.args.edges.now c.args.node c.followers-followers.result c.followers-followers.ensures in
    answer_turned c.ranked_follower-in-None.result _ _ _ _
    (λ other n e. λ r. elim ((is n).1 e) [ inl u ↦ none n u r | inr u ↦ other n u r ])
    (λ n found. ((is n).0 (inr found.0), found.1))
    c.ranked_follower-in-None.ensures
