use Rattle.std.proofs.Common.{ap}
use Rattle.scl_printer.specs.Expressions.{shown}
use Rattle.scl_printer.proofs.Written.{written_as}
use Rattle.scl_printer.proofs.expressions.write_expression.Goals as goal

pub returns : goal.returns
returns g c =
    written_as _ _ _ _ (ap (λ p. (shown p c.args.variables.now c.args.expression.now).text) c.parentheses_of-parentheses.ensures) c.write_tree.ensures
