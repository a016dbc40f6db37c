-- The laws that compiled charts rest on.
use Rattle.std.specs.Prelude.{ℕ, ◌≡◌, ◌<◌, false, Some}
use Rattle.sc_graph.specs.declared.tables.Tables.{Tables}
use Rattle.sc_graph.specs.Valid.{IsFormed, IsValid}
use Rattle.core_charts.specs.declared.features.Features.TheVariants as features
use Rattle.core_charts.specs.Chart.{Chart}
use Rattle.core_charts.specs.Rules.{IsChart}
use Rattle.core_charts.specs.Aborts.{chart_has_aborts}
use Rattle.chart_machine.specs.Table.{table}
use Rattle.scl.specs.declared.program.Scl.{Scl}
use Rattle.scl.specs.Numbering.{numbered}
use Rattle.scl_graph.specs.Graph.{program_of}
use Rattle.abort_expansion.specs.Expansion.{expanded, state_map}
use Rattle.abort_expansion.specs.StateMap.{chart_state}
use Rattle.node_states.specs.Nodes.{state_of_node, state_count}
use Rattle.chart_lowering_laws.specs.Laws.{IsLowering}
use Rattle.chart_lowering_laws.specs.Marks.{layout}
use Rattle.chart_lowering_laws.specs.Stands.{Lowered}
use Rattle.compiled_charts_laws.specs.Nodes.{StandForStates}
use Rattle.compiled_charts_laws.specs.Stands.{StandAlike}
use Rattle.compiled_charts_laws.specs.Reactions.{HasOneReaction}

-- the row that is made along a core chart tells at which nodes of the graph of its lowering a thread rests in which state
abbrev pub NodesTellStates : Type 0
NodesTellStates = (c : Chart) (p : Scl) → IsLowering c p → StandForStates (table c) (numbered p).root (layout c (numbered p).root) (state_of_node c)

-- where that graph is valid with some tables, its reactions are those of the chart
abbrev pub ChartsHaveOneReaction : Type 0
ChartsHaveOneReaction =
    (c : Chart) (p : Scl) (q : Tables) → IsLowering c p → IsValid (program_of (numbered p)) q → HasOneReaction c (state_of_node c) (program_of (numbered p))

-- where that graph is formed, it stands as the chart does through each step of the chart
abbrev pub LoweringsStand : Type 0
LoweringsStand =
    (c : Chart) (p : Scl) → IsLowering c p → IsFormed (program_of (numbered p)) →
    Lowered (table c) (program_of (numbered p)) (StandAlike (table c) (numbered p) (layout c (numbered p).root) (program_of (numbered p)))

-- a chart that is its own core chart, of which each state stands for itself
pub record IsItsOwnCore (c : Chart) : Type 0 where
  pub core : expanded c ≡ c
  pub states : (s : ℕ) → s < state_count c → chart_state (state_map c) s ≡ Some s

-- one without aborts is
abbrev pub ChartsWithoutAbortsStay : Type 0
ChartsWithoutAbortsStay = (c : Chart) → IsChart features.Extended c → chart_has_aborts c ≡ false → IsItsOwnCore c
