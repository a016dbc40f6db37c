use Rattle.std.proofs.Common.{ℕ, MatchOption, subst, arith}
use Rattle.sc_graph.specs.Program.{Program}
use Rattle.sc_graph.specs.Protocol.{ProtocolEdge}
use Rattle.least_or_cycle.specs.Walks.{LeadsStrictlyTo}
use Rattle.priority_weights.specs.Edges.{InOrder}
use Rattle.priority_weights.specs.Inside.Next.{IsRanked}
use Rattle.priority_weights.proofs.Ordering.{order_strictly}
use Rattle.priority_weights.proofs.order.OrderGraph.strictly_towards.Goals as goal

pub returns : goal.returns
returns c =
    let p = c.self.inside.program.now in
    let ranks = c.args.ranks.now in
    let m = c.args.node in
    let r = c.ranked_behind.result in
    let P : Program → Type 0 = λ q. MatchOption r ((n : ℕ) → ProtocolEdge q m n → ¬ IsRanked ranks 4294967296 n)
    (λ n. ProtocolEdge q m n × IsRanked ranks 4294967296 n) in
    let R : Program → Type 0 = λ q. MatchOption r ((n : ℕ) → ¬ LeadsStrictlyTo (InOrder q) ranks m n) (LeadsStrictlyTo (InOrder q) ranks m) in
    subst R c.self.view_is (order_strictly p ranks m 4294967296 r (λ n. let fits = c.type_inv.ranks n in omega (arith, fits))
    (subst P c.self.invariant.edges_of c.ranked_behind.ensures))
