use Rattle.sc_text.proofs.Nesting.{expression_reads, expression_stops}
use Rattle.std.proofs.Common.{rules}
use Rattle.sc_text.proofs.expressions.expression.Goals as goal

pub returns-in_err-rest : goal.returns-in_err-rest
returns-in_err-rest c = search (rules, expression_stops)

pub returns : goal.returns
returns c = search (rules, expression_reads)
