use Rattle.std.proofs.Common.{ℕ, MatchOption, subst}
use Rattle.sc_graph.specs.Program.{Program}
use Rattle.sc_graph.specs.Protocol.{ProtocolEdge}
use Rattle.least_or_cycle.specs.Walks.{LeadsTo}
use Rattle.priority_weights.specs.Edges.{InOrder}
use Rattle.priority_weights.specs.Inside.Next.{IsRanked}
use Rattle.priority_weights.proofs.Ordering.{order_towards, order_instantly}
use Rattle.priority_weights.proofs.order.OrderGraph.towards.Goals as goal

pub returns-in-Some : goal.returns-in-Some
returns-in-Some c =
    let p = c.self.inside.program.now in
    let found = rw c.in-Some.is at c.ranked_instant.ensures in
    let R : Program → Type 0 = λ q. LeadsTo (InOrder q) c.args.ranks.now c.args.node c.args.below c.in-Some.found in
    subst R c.self.view_is (order_instantly p c.args.ranks.now c.args.node c.args.below c.in-Some.found found)

pub returns-in-None : goal.returns-in-None
returns-in-None c =
    let p = c.self.inside.program.now in
    let ranks = c.args.ranks.now in
    let m = c.args.node in
    let below = c.args.below in
    let r = c.ranked_behind.result in
    let none = rw c.in-None.is at c.ranked_instant.ensures in
    let P : Program → Type 0 = λ q. MatchOption r ((n : ℕ) → ProtocolEdge q m n → ¬ IsRanked ranks below n) (λ n. ProtocolEdge q m n × IsRanked ranks below n)
    in
    let R : Program → Type 0 = λ q. MatchOption r ((n : ℕ) → ¬ LeadsTo (InOrder q) ranks m below n) (LeadsTo (InOrder q) ranks m below) in
    subst R c.self.view_is (order_towards p ranks m below r none (subst P c.self.invariant.edges_of c.ranked_behind.ensures))
