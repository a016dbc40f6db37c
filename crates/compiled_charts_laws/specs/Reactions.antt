-- The reactions of a core chart and those of its graph are seen alike.
use Rattle.std.specs.Prelude.{ℕ, ◌≡◌, ◌<◌, Option, List, [], ◌∷◌, length}
use Rattle.sc_graph.specs.declared.control.Control.{Control}
use Rattle.sc_graph.specs.Program.{Program}
use Rattle.sc_graph.specs.Tick.{Inputs, AreAccepted}
use Rattle.sc_graph.specs.Machine as graph
use Rattle.sc_graph.specs.Tick as graph_tick
use Rattle.core_charts.specs.Chart.{Chart}
use Rattle.chart_machine.specs.declared.standing.Configuration.{Configuration}
use Rattle.chart_machine.specs.declared.table.Table.{Table}
use Rattle.chart_machine.specs.Table.{table}
use Rattle.chart_machine.specs.Machine as chart
use Rattle.chart_lowering_laws.specs.Keeps.{Reaction, EachPair}
use Rattle.node_states.specs.Active.{is_active}

-- the variables are the same, and a state is active exactly where some thread rests at a node that stands for it
pub record AreSeenAlike (k : Table) (nodes : List (Option ℕ)) (d : Configuration) (control : Control) : Type 0 where
  pub variables : control.variables ≡ d.variables
  pub active : (s : ℕ) → s < length k.states → is_active nodes control s ≡ chart.is_active k d s

-- a list of ends of the chart, one a tick, and one of a program
abbrev pub ChartReacts : Chart → List Inputs → List Configuration → Type 0
ChartReacts c ticks ds = Reaction (chart.machine (table c)) (chart.start (table c)) (chart.initial (table c)) ticks ds

abbrev pub GraphReacts : Program → List Inputs → List Control → Type 0
GraphReacts q ticks es = Reaction (graph.machine q) (graph_tick.start q) (graph_tick.initial q) ticks es

abbrev pub AllAccepted : Program → List Inputs → Type 0
AllAccepted q [] = Unit {0}
AllAccepted q (inputs ∷ ticks) = AreAccepted q inputs × AllAccepted q ticks

-- a reaction of the chart that is seen alike, tick for tick
pub record IsReactionOfChart (c : Chart) (nodes : List (Option ℕ)) (ticks : List Inputs) (es : List Control) : Type 0 where
  pub ends : List Configuration
  pub reacts : ChartReacts c ticks ends
  pub alike : EachPair (AreSeenAlike (table c) nodes) ends es

-- by this row of nodes to states each reaction of the chart is seen alike in each one of the program, and each of the
-- program is one of the chart
pub record HasOneReaction (c : Chart) (nodes : List (Option ℕ)) (q : Program) : Type 0 where
  pub each : (ticks : List Inputs) (ds : List Configuration) (es : List Control) → AllAccepted q ticks → ChartReacts c ticks ds → GraphReacts q ticks es →
      EachPair (AreSeenAlike (table c) nodes) ds es
  pub some : (ticks : List Inputs) (es : List Control) → AllAccepted q ticks → GraphReacts q ticks es → IsReactionOfChart c nodes ticks es
