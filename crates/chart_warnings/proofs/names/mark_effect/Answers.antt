use Rattle.chart_warnings.proofs.Marking.{others_read}
use Rattle.std.proofs.Common.{rules}
use Rattle.chart_warnings.proofs.names.mark_effect.Goals as goal

pub returns-in-Asked : goal.returns-in-Asked
returns-in-Asked c = search (rules, others_read)
