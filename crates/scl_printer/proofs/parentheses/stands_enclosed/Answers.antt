use Rattle.std.proofs.Common.{ap, ◌∙◌}
use Rattle.scl_printer.specs.Expressions.{is_enclosed}
use Rattle.scl_printer.proofs.parentheses.stands_enclosed.Goals as goal

pub returns : goal.returns
returns c = λ vs. c.is_enclosed.ensures ∙ ap (is_enclosed c.args.parentheses c.args.takes_not) (c.form_of.ensures.shown c.args.parentheses vs)
