-- A chart and its core chart that rest alike are seen alike, and where the one is over the other one is.
use Rattle.sc_values.specs.Runs.{IsOver}
use Rattle.core_charts.specs.declared.features.Features.TheVariants as features
use Rattle.core_charts.specs.Chart.{Chart}
use Rattle.core_charts.specs.Rules.{IsChart}
use Rattle.chart_machine.specs.declared.standing.Configuration.{Configuration}
use Rattle.chart_machine.specs.declared.table.Table.{Table}
use Rattle.chart_machine.specs.Table.{table}
use Rattle.chart_machine.specs.Machine.{machine}
use Rattle.abort_expansion.specs.Expansion.{expanded}
use Rattle.abort_expansion.specs.StateMap.{chart_state}
use Rattle.abort_expansion.specs.Expansion.{state_map}
use Rattle.abort_expansion_laws.specs.CoreRows.{Images}
use Rattle.abort_expansion_laws.specs.Preemption.{SeenAlike}
use Rattle.abort_expansion_laws.proofs.Owed.{Resting}
use Rattle.abort_expansion_laws.proofs.CoreOver as core_over
use Rattle.abort_expansion_laws.proofs.SeenAlike as seen
use Rattle.abort_expansion_laws.proofs.RowsOfCharts as whole
use Rattle.abort_expansion_laws.proofs.MoreRows.{map_of_chart}

module _ (c : Chart) (rules : IsChart features.Extended c) (core_rules : IsChart features.Core (expanded c)) where
  abbrev k : Table
  k = table c

  abbrev core : Table
  core = table (expanded c)

  abbrev i : Images
  i = whole.i c rules core_rules

  pub rested_over : (d e : Configuration) → Resting k core i d e → IsOver (machine k) d → IsOver (machine core) e
  rested_over d e rests over =
      core_over.over_too k core i (whole.rows_of_chart c rules core_rules) (whole.tree c rules core_rules).children (whole.tree c rules core_rules).deeper
      d e rests over

  pub rested_seen : (d e : Configuration) → Resting k core i d e → SeenAlike c d e
  rested_seen d e rests =
      record {
        variables = seen.seen_variables k core i (whole.rows_of_chart c rules core_rules) (chart_state (state_map c)) (map_of_chart c rules core_rules) d
            e rests;
        active = seen.seen_active k core i (whole.rows_of_chart c rules core_rules) (chart_state (state_map c)) (map_of_chart c rules core_rules) d
            e rests;
      }
