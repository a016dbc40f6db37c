-- How a configuration of a core chart and one of its graph stand alike.
use Rattle.sc_graph.specs.declared.control.Control.{Control}
use Rattle.sc_graph.specs.Program.{Program}
use Rattle.sc_graph.specs.Tick.{IsConfiguration}
use Rattle.chart_machine.specs.declared.standing.Configuration.{Configuration}
use Rattle.chart_machine.specs.declared.table.Table.{Table}
use Rattle.scl.specs.Numbering.{Numbered}
use Rattle.scl.specs.Meaning.{State}
use Rattle.scl_graph_laws.specs.Keeps.{Corresponds as StandsInGraph}
use Rattle.chart_lowering_laws.specs.Layout.{Layout}
use Rattle.chart_lowering_laws.specs.Corresponds.{Corresponds}

-- a state of the program's text corresponds to both
pub record StandAlike (k : Table) (p : Numbered) (l : Layout) (q : Program) (d : Configuration) (m : Control) : Type 0 where
  pub state : State
  pub of_chart : Corresponds k p l d state
  pub of_graph : StandsInGraph p state m
  pub is_configuration : IsConfiguration q m
