use Rattle.std.specs.Prelude.{slice_index}
use Rattle.program_edges.specs.Sorts.{IsNext}
use Rattle.priority_weights.proofs.GoingOn.{on_towards}
use Rattle.priority_weights.proofs.going_on.GoingOnGraph.towards.Goals as goal

pub returns : goal.returns
returns c =
    on_towards c.args.self.now.program.now (slice_index c.args.self.now.ends.now) (IsNext c.next.result) c.args.ranks.now c.args.node c.args.below
    c.ranked_next.result c.next.ensures c.ranked_next.ensures
