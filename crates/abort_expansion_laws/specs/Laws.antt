-- The laws of the expansion of aborts, as far as they stand.
use Rattle.std.specs.Prelude.{ℕ, Bool, List}
use Rattle.sc_values.specs.Runs.{IsOrdered}
use Rattle.core_charts.specs.declared.features.Features.TheVariants as features
use Rattle.core_charts.specs.Chart.{Chart}
use Rattle.core_charts.specs.Rules.{IsChart}
use Rattle.chart_machine.specs.declared.table.Table.{Table}
use Rattle.chart_machine.specs.Table.{table}
use Rattle.chart_machine.specs.Turns.{ForkedApart}
use Rattle.abort_expansion.specs.Expansion.{expanded}
use Rattle.abort_expansion_laws.specs.Stages.{Entry, core_log, chart_log, EachFits, Climbs, NoneReached, EachSpared}
use Rattle.chart_machine_laws.specs.Tree.{IsNested}
use Rattle.abort_expansion_laws.specs.CoreRows.{Images, CoreRows, pair}

-- the core's log is ordered where the chart's is, if no stage falls and no strong test is overwritten
abbrev pub StagesKeepOrder : Type 0
StagesKeepOrder =
    (k core : Table) (i : Images) (rows : CoreRows k core i) (tree : IsNested k) → IsNested core → (counts : ℕ → Bool) (written_at : ℕ → ℕ) →
    (log : List Entry) → EachFits (pair k core i rows tree counts written_at) log → EachSpared (pair k core i rows tree counts written_at) log →
    Climbs (pair k core i rows tree counts written_at) NoneReached log →
    IsOrdered (ForkedApart k) (chart_log log) → IsOrdered (ForkedApart core) (core_log (pair k core i rows tree counts written_at) log)

-- the table of each expanded chart has the rows that are taken of it: what stands for each region, state and superstate
abbrev pub ExpandedChartsHaveRows : Type 0
ExpandedChartsHaveRows =
    (c : Chart) → IsChart features.Extended c → IsChart features.Core (expanded c) → (i : Images) × CoreRows (table c) (table (expanded c)) i
