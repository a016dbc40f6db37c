use Rattle.std.proofs.Common.{sym, ◌∙◌}
use Rattle.std.specs.Prelude.{slice_index}
use Rattle.program_edges.specs.Sorts.{IsNext}
use Rattle.priority_weights.proofs.GoingOn.{next_over, next_on}
use Rattle.priority_weights.proofs.going_on.GoingOn.next.Goals as goal

pub returns-in-Some-join_at_once : goal.returns-in-Some-join_at_once
returns-in-Some-join_at_once c =
    next_over c.args.self.now.program.now (slice_index c.args.self.now.ends.now) c.args.node c.in-Some-join_at_once.join c.in-Some.step.now
    (sym c.in-Some.ensures) (sym c.join_at_once.ensures ∙ c.in-Some-join_at_once.is)

pub returns-in-None-join_at_once : goal.returns-in-None-join_at_once
returns-in-None-join_at_once c =
    next_on c.args.self.now.program.now (slice_index c.args.self.now.ends.now) c.args.node c.in-Some.step.now (IsNext c.successors.result)
    (sym c.in-Some.ensures) (sym c.join_at_once.ensures ∙ c.in-None-join_at_once.is) c.successors.ensures
