-- What it is that the ticks of a compiled chart are a reaction of its chart.
use Rattle.std.specs.Prelude.{ℕ, ◌≡◌, Option, List, length, take}
use Rattle.sc_graph.specs.declared.control.Control.{Control}
use Rattle.sc_graph.specs.Tick.{Inputs}
use Rattle.core_charts.specs.Chart.{Chart}
use Rattle.chart_machine.specs.declared.standing.Configuration.{Configuration}
use Rattle.chart_machine.specs.declared.table.Table.{Table}
use Rattle.chart_machine.specs.Table.{table}
use Rattle.chart_machine.specs.Machine as chart
use Rattle.abort_expansion.specs.Expansion.{expanded}
use Rattle.chart_lowering_laws.specs.Keeps.{Reaction, EachPair}
use Rattle.node_states.specs.Active.{active_states, numbers_where}
use Rattle.node_states.specs.Nodes.{state_of_node}
use Rattle.compiled_charts.specs.Compiled.{CompiledChart, IsCompiledChart}

-- a list of ends of a chart, one a tick
abbrev pub Reacts : Chart → List Inputs → List Configuration → Type 0
Reacts c ticks ends = Reaction (chart.machine (table c)) (chart.start (table c)) (chart.initial (table c)) ticks ends

-- the active states of a configuration, ascending
abbrev pub active : Table → Configuration → List ℕ
active k d = numbers_where (chart.is_active k d) 0 (length k.states)

-- the declared variables are the same, and the active states, by a row of nodes to so many states
pub record AreSeenAlike (c : Chart) (nodes : List (Option ℕ)) (states : ℕ) (d : Configuration) (control : Control) : Type 0 where
  pub variables : take (length c.variables) control.variables ≡ d.variables
  pub active : active_states nodes states control ≡ active (table c) d

-- each reaction of the chart to these ticks is seen alike in these configurations, tick for tick
abbrev pub IsEachSeen : Chart → (nodes : List (Option ℕ)) (states : ℕ) → List Inputs → List Control → Type 0
IsEachSeen c nodes states ticks controls = (ends : List Configuration) → Reacts c ticks ends → EachPair (AreSeenAlike c nodes states) ends controls

-- and it has one
pub record IsReactionSeen (c : Chart) (nodes : List (Option ℕ)) (states : ℕ) (ticks : List Inputs) (controls : List Control) : Type 0 where
  pub each : IsEachSeen c nodes states ticks controls
  pub some : (ends : List Configuration) × Reacts c ticks ends

-- the core chart's reaction is seen in these configurations, and so is that of the chart, which is the only one
pub record ShowsReaction (c : Chart) (x : CompiledChart) (ticks : List Inputs) (controls : List Control) : Type 0 where
  pub core : IsReactionSeen (expanded c) (state_of_node (expanded c)) (length (table (expanded c)).states) ticks controls
  pub chart : IsReactionSeen c x.nodes x.states ticks controls
  pub only : (ds es : List Configuration) → Reacts c ticks ds → Reacts c ticks es → ds ≡ es

-- of whichever chart this was compiled
abbrev pub ShowsItsReaction : CompiledChart → List Inputs → List Control → Type 0
ShowsItsReaction x ticks controls = (c : Chart) → IsCompiledChart c x → ∥ ShowsReaction c x ticks controls ∥₁
