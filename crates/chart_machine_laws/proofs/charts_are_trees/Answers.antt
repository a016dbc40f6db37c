use Rattle.chart_machine_laws.proofs.ChartTables.{chart_is_tree}
use Rattle.chart_machine_laws.proofs.charts_are_trees.Goals as goal

pub returns : goal.returns
returns c = chart_is_tree
