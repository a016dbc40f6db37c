use Rattle.chart_warnings.proofs.Marking.{marked_append}
use Rattle.std.proofs.Common.{rules}
use Rattle.chart_warnings.proofs.names.mark_transition.Goals as goal

pub returns : goal.returns
returns c = search (rules, marked_append)
