use Rattle.std.proofs.Common.{rules}
use Rattle.sc_values.proofs.Literals.{literal_value}
use Rattle.sc_values.proofs.code.Code.literal.Goals as goal

pub returns-in-Literal-clause-value : goal.returns-in-Literal-clause-value
returns-in-Literal-clause-value c = λ variables. literal_value c.args.self.now c.in-Literal.value variables (search rules)
