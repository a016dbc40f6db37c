use Rattle.std.specs.Prelude.{slice_index}
use Rattle.program_edges.specs.Sorts.{IsNext}
use Rattle.priority_weights.proofs.GoingOn.{on_needed}
use Rattle.priority_weights.proofs.going_on.GoingOnNumberRule.need.Goals as goal

pub returns : goal.returns
returns c =
    on_needed c.args.self.now.program.now (slice_index c.args.self.now.ends.now) (IsNext c.next.result) c.args.table.now c.args.place c.asked_by_next.result
    c.requires c.next.ensures c.asked_by_next.ensures
