use Rattle.std.proofs.Common.{◌∙◌, Some, ap, sym}
use Rattle.tick_core.proofs.LivingChildren.{waiting_row, waits_on}
use Rattle.tick_core.proofs.sorting.step_priority.Goals as goal

pub returns-then-left-eq0 : goal.returns-then-left-eq0
returns-then-left-eq0 c = λ p h.
    ap Some c.priority-then-left-eq0.ensures
    ∙ sym (waiting_row p c.args.tables.now c.args.control.now c.args.thread c.in-Waiting.join c.args.living.now h (sym c.status.ensures ∙ c.in-Waiting.is) 0
    (sym c.if-left-eq0.true ∙ c.left.ensures))

pub returns-else-left-eq0 : goal.returns-else-left-eq0
returns-else-left-eq0 c = λ p h.
    waits_on c.left.result _ c.if-left-eq0.false
    ∙ sym (waiting_row p c.args.tables.now c.args.control.now c.args.thread c.in-Waiting.join c.args.living.now h (sym c.status.ensures ∙ c.in-Waiting.is)
    c.left.result c.left.ensures)
