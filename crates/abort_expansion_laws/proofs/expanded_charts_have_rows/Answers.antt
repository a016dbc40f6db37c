use Rattle.abort_expansion_laws.proofs.RowsOfCharts.{i, rows_of_chart}
use Rattle.abort_expansion_laws.proofs.expanded_charts_have_rows.Goals as goal

pub returns : goal.returns
returns c = λ chart rules core_rules. (i chart rules core_rules, rows_of_chart chart rules core_rules)
