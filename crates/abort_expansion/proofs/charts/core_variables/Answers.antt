use Rattle.abort_expansion.proofs.Whole.{as_many_variables}
use Rattle.std.proofs.Common.{rules}
use Rattle.abort_expansion.proofs.charts.core_variables.Goals as goal

pub returns-clause-count : goal.returns-clause-count
returns-clause-count c = search (rules, as_many_variables)
