use Rattle.std.proofs.Common.{rules}
use Rattle.chart_texts.proofs.printer.same_charts.has_same_own.Goals as goal

pub returns-then-one-other-2 : goal.returns-then-one-other-2
returns-then-one-other-2 c = search rules
