use Rattle.std.proofs.Common.{ℕ, subst, sym, ◌⊎◌}
use Rattle.sc_graph.specs.Protocol.{ProtocolEdge}
use Rattle.priority_weights.specs.Inside.Ordered.{IsFollower}
use Rattle.priority_weights.specs.Inside.Next.{IsAsked}
use Rattle.priority_weights.proofs.Asking.{asked_alike, asked_either}
use Rattle.priority_weights.proofs.Ordering.{protocol_edges}
use Rattle.priority_weights.proofs.protocol.asked_by_protocol.Goals as goal

pub returns : goal.returns
returns c =
    let p = c.args.edges.now in
    let m = c.args.node in
    let f = c.followers-followers.result in
    let table = c.args.table.now in
    let P : ℕ → Type 0 = λ x. IsAsked (ProtocolEdge p m) table 1 x in
    subst P (sym c.max.ensures)
    (asked_alike (λ n. IsFollower p m f.updates.now n ⊎ IsFollower p m f.reads.now n) (ProtocolEdge p m) table 1 _
    (protocol_edges p m f c.followers-followers.ensures)
    (asked_either (IsFollower p m f.updates.now) (IsFollower p m f.reads.now) table 1 c.asked_by_followers.result c.asked_by_followers-2.result
    c.asked_by_followers.ensures c.asked_by_followers-2.ensures))
