use Rattle.std.proofs.Common.{arith}
use Rattle.std.specs.Prelude.{slice_index}
use Rattle.program_edges.specs.Sorts.{IsNext}
use Rattle.priority_weights.proofs.GoingOn.{on_strictly}
use Rattle.priority_weights.proofs.going_on.GoingOnGraph.strictly_towards.Goals as goal

pub returns : goal.returns
returns c =
    on_strictly c.args.self.now.program.now (slice_index c.args.self.now.ends.now) (IsNext c.next.result) c.args.ranks.now c.args.node 4294967296
    c.ranked_next.result (λ n. let fits = c.type_inv.ranks n in omega (arith, fits)) c.next.ensures c.ranked_next.ensures
