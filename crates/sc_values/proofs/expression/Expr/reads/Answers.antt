use Rattle.std.proofs.Common.{sym, ◌∙◌}
use Rattle.sc_values.proofs.Reading.{read_where_named}
use Rattle.sc_values.proofs.expression.Expr.reads.Goals as goal

pub returns : goal.returns
returns c = c.names.ensures ∙ sym (read_where_named c.args.variable c.args.self.now)
