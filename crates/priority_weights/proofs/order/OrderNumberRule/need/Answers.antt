use Rattle.std.proofs.Common.{ℕ, sym, subst}
use Rattle.sc_graph.specs.Program.{Program}
use Rattle.sc_graph.specs.Protocol.{ProtocolEdge}
use Rattle.least_or_cycle.specs.Least.{IsNeeded}
use Rattle.least_or_cycle.specs.Walks.{Falls}
use Rattle.priority_weights.specs.Edges.{InOrder}
use Rattle.priority_weights.specs.Inside.Next.{IsAsked}
use Rattle.priority_weights.proofs.Ordering.{order_needed}
use Rattle.priority_weights.proofs.order.OrderNumberRule.need.Goals as goal

pub returns : goal.returns
returns c =
    let p = c.self.inside.program.now in
    let table = c.args.table.now in
    let m = c.args.place in
    let P : Program → Type 0 = λ q. IsAsked (ProtocolEdge q m) table 1 c.asked_by_protocol.result in
    let Q : ℕ → Type 0 = λ x. IsNeeded (Falls (InOrder p)) table m x in
    let R : Program → Type 0 = λ q. IsNeeded (Falls (InOrder q)) table m c.max.result in
    subst R c.self.view_is
    (subst Q (sym c.max.ensures)
    (order_needed p table m c.asked_by_instants.result c.asked_by_protocol.result c.requires c.asked_by_instants.ensures
    (subst P c.self.invariant.edges_of c.asked_by_protocol.ensures)))
