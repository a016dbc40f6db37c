use Rattle.std.proofs.Common.{◌∙◌, Some, ap, sym}
use Rattle.tick_core.proofs.LivingChildren.{waiting_row_by, waits_on}
use Rattle.tick_core.proofs.waking.first_row.Goals as goal

pub returns-then-count-eq0 : goal.returns-then-count-eq0
returns-then-count-eq0 c = λ p d t standing counted.
    ap Some c.priority-then-count-eq0.ensures
    ∙ sym (waiting_row_by p c.args.tables.now d t c.in-Waiting.join (standing ∙ c.in-Waiting.is) 0
    (sym c.if-count-eq0.true ∙ counted c.in-Waiting.join c.in-Waiting.is))

pub returns-else-count-eq0 : goal.returns-else-count-eq0
returns-else-count-eq0 c = λ p d t standing counted.
    waits_on c.args.count _ c.if-count-eq0.false
    ∙ sym (waiting_row_by p c.args.tables.now d t c.in-Waiting.join (standing ∙ c.in-Waiting.is) c.args.count
    (counted c.in-Waiting.join c.in-Waiting.is))
