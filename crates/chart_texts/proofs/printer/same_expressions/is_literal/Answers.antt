use Rattle.std.proofs.lemmas.Grind.{common_steps}
use Rattle.std.proofs.Common.{arith}
use Rattle.chart_texts.proofs.printer.same_expressions.is_literal.Goals as goal

pub returns-in_default : goal.returns-in_default
returns-in_default c = grind (arith, common_steps) steps 2000000

pub returns-in-Literal : goal.returns-in-Literal
returns-in-Literal c = grind (arith, common_steps) steps 2000000
