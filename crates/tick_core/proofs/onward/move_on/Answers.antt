use Rattle.std.proofs.Common.{◌∙◌, List, Option, ℕ, Some, ap, sym, slice_set}
use Rattle.tick_core.proofs.NextSteps.{own_row_at, set_there}
use Rattle.tick_core.proofs.onward.move_on.Goals as goal

pub returns-in-Some-clause-set : goal.returns-in-Some-clause-set
returns-in-Some-clause-set c =
    sym (ap (λ (classes : List (Option ℕ)). record c.args.rows.now { classes = classes })
    (ap (slice_set c.args.rows.now.classes c.args.thread) (sym c.own_row-row.ensures ∙ c.in-Some.is)
    ∙ set_there c.args.rows.now.classes c.args.thread (Some c.in-Some.prior) (c.is_in.ensures.0 c.if-is_in.true)))

pub returns-in-Some-clause-stays : goal.returns-in-Some-clause-stays
returns-in-Some-clause-stays c =
    own_row_at c.args.tables.now c.args.next c.in-Some.prior (sym c.own_row-row.ensures ∙ c.in-Some.is) c.args.rows.now c.args.thread
    (c.is_in.ensures.0 c.if-is_in.true)
