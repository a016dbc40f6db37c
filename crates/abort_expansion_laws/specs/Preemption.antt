-- What the law of preemption speaks of: a chart's machine, its image, and what is seen alike of the chart and of its core chart.
use Rattle.std.specs.Prelude.{ℕ, ◌≡◌, ◌↔◌, true, Some, length, take}
use Rattle.sc_graph.specs.Program.{Program}
use Rattle.sc_graph.specs.Valid.{IsValid}
use Rattle.sc_graph.specs.declared.tables.Tables.{Tables}
use Rattle.core_charts.specs.Chart.{Chart}
use Rattle.chart_machine.specs.declared.standing.Configuration.{Configuration}
use Rattle.chart_machine.specs.Table.{table}
use Rattle.chart_machine.specs.Machine.{machine, initial, start, is_active}
use Rattle.abort_expansion.specs.StateMap.{chart_state}
use Rattle.abort_expansion.specs.Expansion.{expanded, state_map}
use Rattle.scl.specs.declared.program.Scl.{Scl}
use Rattle.chart_lowering.specs.Lowering.{lowered}
use Rattle.scl_graph.specs.Answers.{IsGraph}
use Rattle.abort_expansion_laws.specs.Ticks.{Reactive}

abbrev pub chart_machine : Chart → Reactive
chart_machine c = record { machine = machine (table c); initial = initial (table c); start = start (table c) }

-- the core chart stands in a state that stands for this one
abbrev pub IsActiveInCore : Chart → Configuration → ℕ → Type 0
IsActiveInCore c e s = (n : ℕ) × (is_active (table (expanded c)) e n ≡ true) × (chart_state (state_map c) n ≡ Some s)

-- a configuration of a chart and one of its core chart: the declared variables have the same values, and the same states
-- are active
pub record SeenAlike (c : Chart) (d e : Configuration) : Type 0 where
  pub variables : take (length c.variables) e.variables ≡ d.variables
  pub active : (s : ℕ) → (is_active (table c) d s ≡ true) ↔ IsActiveInCore c e s

-- the program of a chart, with tables by which it is valid
pub record HasImage (c : Chart) : Type 0 where
  pub scl : Scl
  pub declared : scl.variables ≡ (expanded c).variables
  pub body : scl.body ≡ lowered (expanded c)
  pub program : Program
  pub graph : IsGraph scl program
  pub tables : Tables
  pub valid : IsValid program tables
