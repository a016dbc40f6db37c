use Rattle.std.proofs.Common.{subst}
use Rattle.std.specs.Prelude.{slice_index}
use Rattle.sc_graph.specs.Program.{Program}
use Rattle.least_or_cycle.specs.Least.{Keeps}
use Rattle.least_or_cycle.specs.Walks.{Falls}
use Rattle.priority_weights.specs.Edges.{InOrder}
use Rattle.priority_weights.proofs.Ordering.{order_kept}
use Rattle.priority_weights.proofs.order.OrderNumberRule.is_kept.Goals as goal

pub returns : goal.returns
returns c = λ yes.
    let p = c.self.inside.program.now in
    let table = c.args.table.now in
    let R : Program → Type 0 = λ q. Keeps (Falls (InOrder q)) c.args.count (slice_index table) in
    subst R c.self.view_is
    (order_kept p table c.args.count (c.instants_kept.ensures c.if-not-instants_kept.false) (c.in_ok-kept.ensures yes))
