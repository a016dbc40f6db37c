use Rattle.std.proofs.lemmas.Grind.{elements}
use Rattle.std.proofs.Common.{◌∙◌, sym, ap, arith}
use Rattle.tick_core.specs.Space.Sorting.{step_priority, unless_claimed}
use Rattle.tick_core.proofs.Opened.{none_counted_at}
use Rattle.tick_core.proofs.sorting.ready_row.Goals as goal

pub returns-then-claimed-eq0 : goal.returns-then-claimed-eq0
returns-then-claimed-eq0 c = λ p h.
    c.step_priority.ensures p h
    ∙ sym (ap (λ o. unless_claimed o (step_priority p c.args.tables.now c.args.control.now c.args.thread))
    (none_counted_at c.args.claims.now c.args.thread (sym c.requires.counted ∙ c.if-claimed-eq0.true) c.requires.place))

pub returns-in-Some-None : goal.returns-in-Some-None
returns-in-Some-None c = grind (arith, elements) steps 2000000

pub returns-in_default : goal.returns-in_default
returns-in_default c = grind (arith, elements) steps 2000000
