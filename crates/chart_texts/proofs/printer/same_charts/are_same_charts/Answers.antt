use Rattle.std.proofs.Common.{rules}
use Rattle.chart_texts.proofs.printer.same_charts.are_same_charts.Goals as goal

pub returns-else-are_same_rows : goal.returns-else-are_same_rows
returns-else-are_same_rows c = search rules
