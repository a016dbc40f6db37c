use Rattle.std.proofs.Common.{ℕ, subst}
use Rattle.std.specs.Prelude.{slice_index, IfOk}
use Rattle.priority_weights.specs.Edges.{InTick}
use Rattle.priority_weights.specs.Inside.Falling.{IsFalling}
use Rattle.priority_weights.specs.Inside.Next.{LeadsOn}
use Rattle.priority_weights.proofs.Ticking.{falling_alike, on_is, if_ok_turned}
use Rattle.priority_weights.proofs.going_on.going_on_ranks.Goals as goal

pub returns-clause-in_tick : goal.returns-clause-in_tick
returns-clause-in_tick c =
    let p = c.args.program.now in
    let ends = c.args.ends.now in
    let count = c.node_count.result in
    let P : ℕ → Type 0 = λ n. IfOk c.table_or_cycle.result (IsFalling (InTick p) n) in
    subst P c.node_count.ensures.count
    (if_ok_turned c.table_or_cycle.result (IsFalling (LeadsOn p (slice_index ends)) count) (IsFalling (InTick p) count)
    (λ f h. falling_alike (LeadsOn p (slice_index ends)) (InTick p) (on_is p ends c.requires) count f h) c.table_or_cycle.ensures)
