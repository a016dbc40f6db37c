-- The laws of the lowering of charts.
use Rattle.std.specs.Prelude.{◌≡◌}
use Rattle.core_charts.specs.declared.features.Features.TheVariants as features
use Rattle.core_charts.specs.Chart.{Chart}
use Rattle.core_charts.specs.Rules.{IsChart}
use Rattle.chart_machine.specs.declared.table.Table.{Table}
use Rattle.chart_machine.specs.Table.{table}
use Rattle.chart_lowering.specs.Lowering.{lowered}
use Rattle.scl.specs.declared.program.Scl.{Scl}
use Rattle.scl.specs.Numbering.{Numbered, numbered}
use Rattle.scl.specs.Rules.{KeepsRules}
use Rattle.scl_graph.specs.Loops.{HasNoEmptyLoop}
use Rattle.chart_lowering_laws.specs.Layout.{Layout, Lowers}
use Rattle.chart_lowering_laws.specs.Keeps.{KeepsRuns}
use Rattle.chart_lowering_laws.specs.Active.{TellsStates, TellsActive}
use Rattle.chart_lowering_laws.specs.Marks.{layout}

-- each program that is laid out as a lowering of a chart's table keeps the chart's runs
abbrev pub LoweringsKeepRuns : Type 0
LoweringsKeepRuns = (k : Table) (p : Numbered) (l : Layout) → Lowers k p l → KeepsRuns k p l

-- its threads tell the active states, where states are told apart by their pauses and forks
abbrev pub ThreadsTellStates : Type 0
ThreadsTellStates = (k : Table) (p : Numbered) (l : Layout) → Lowers k p l → TellsStates k l → TellsActive k p l

-- the SCL program to which a core chart is lowered, where no labels and gotos alone lead back to themselves
pub record IsLowering (c : Chart) (p : Scl) : Type 0 where
  pub core : IsChart features.Core c
  pub rules : KeepsRules p.name p.variables p.body
  pub variables : p.variables ≡ c.variables
  pub body : p.body ≡ lowered c
  pub no_loop : HasNoEmptyLoop (numbered p).root

-- it is laid out so, and tells states apart
pub record ChartsAreLowered : Type 0 where
  pub lowers : (c : Chart) (p : Scl) → IsLowering c p → Lowers (table c) (numbered p) (layout c (numbered p).root)
  pub tells : (c : Chart) (p : Scl) → IsLowering c p → TellsStates (table c) (layout c (numbered p).root)

-- so it keeps the chart's runs, and tells the active states
pub record ChartsKeepTicks : Type 0 where
  pub runs : (c : Chart) (p : Scl) → IsLowering c p → KeepsRuns (table c) (numbered p) (layout c (numbered p).root)
  pub active : (c : Chart) (p : Scl) → IsLowering c p → TellsActive (table c) (numbered p) (layout c (numbered p).root)
