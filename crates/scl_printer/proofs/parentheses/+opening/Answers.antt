use Rattle.std.proofs.Common.{ap, sym, ◌∙◌}
use Rattle.scl_printer.specs.declared.parentheses.Parentheses.{Parentheses}
use Rattle.scl_printer.specs.Expressions.{Opens, opens, with_left}
use Rattle.scl_printer.proofs.Opening.{operand_left}
use Rattle.scl_printer.proofs.parentheses.+opening.Goals as goal

pub operand_opens_at_most-returns-in-None : goal.operand_opens_at_most-returns-in-None
operand_opens_at_most-returns-in-None t c =
    let p : Parentheses = c.args.parentheses in
    let o : Opens = opens p c.args.operand.now in
    sym (operand_left p c.args.takes_not o c.args.limit _ _ _ c.is_enclosed-is_open.ensures (c.form_of.ensures.opens p) c.left_within.ensures ∙ ap
    (with_left o.at_most) c.in-None.is)

pub operand_opens_at_most-returns-in-Some : goal.operand_opens_at_most-returns-in-Some
operand_opens_at_most-returns-in-Some t c =
    let p : Parentheses = c.args.parentheses in
    let o : Opens = opens p c.args.operand.now in
    c.opens_at_most.ensures
    ∙ sym (operand_left p c.args.takes_not o c.args.limit _ _ _ c.is_enclosed-is_open.ensures (c.form_of.ensures.opens p) c.left_within.ensures ∙ ap
    (with_left o.at_most) c.in-Some.is)
