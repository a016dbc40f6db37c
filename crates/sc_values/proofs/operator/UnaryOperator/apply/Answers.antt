use Rattle.std.proofs.Common.{rules}
use Rattle.std.proofs.lemmas.Int.{wraps}
use Rattle.sc_values.proofs.operator.UnaryOperator.apply.Goals as goal

pub returns-in-Negate-Int : goal.returns-in-Negate-Int
returns-in-Negate-Int c = search (rules, wraps)
