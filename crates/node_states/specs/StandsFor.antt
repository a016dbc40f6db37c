-- For which state of a chart each node of its program stands, past the core chart to which it is expanded.
use Rattle.std.specs.Prelude.{ℕ, Option, Some, None, List, map}
use Rattle.core_charts.specs.Chart.{Chart}
use Rattle.abort_expansion.specs.StateMap.{chart_state}
use Rattle.abort_expansion.specs.Expansion.{expanded, state_map}
use Rattle.node_states.specs.Nodes.{state_of_node}

-- the chart's state for which a core state stands, if there is one
abbrev pub past_core : List (Option ℕ) → Option ℕ → Option ℕ
past_core states None = None
past_core states (Some core) = chart_state states core

-- the core chart's states of some nodes, and for what these stand
abbrev pub composed : List (Option ℕ) → List (Option ℕ) → List (Option ℕ)
composed nodes states = map (past_core states) nodes

abbrev pub stands_for : Chart → List (Option ℕ)
stands_for c = composed (state_of_node (expanded c)) (state_map c)
