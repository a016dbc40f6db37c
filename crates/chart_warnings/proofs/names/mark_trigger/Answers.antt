use Rattle.chart_warnings.proofs.Marking.{all_read}
use Rattle.std.proofs.Common.{rules}
use Rattle.chart_warnings.proofs.names.mark_trigger.Goals as goal

pub returns-in-Some : goal.returns-in-Some
returns-in-Some c = search (rules, all_read)
