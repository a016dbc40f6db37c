-- What is answered of a chart: its core chart with the states for which those of that stand, or why it has none.
use Rattle.std.specs.Prelude.{◌≡◌}
use Rattle.core_charts.specs.Chart.{Chart}
use Rattle.abort_expansion.specs.declared.fault.ExpandFault.{ExpandFault}
use Rattle.abort_expansion.specs.declared.fault.ExpandFault.TheVariants as fault
use Rattle.abort_expansion.specs.declared.state_map.StateMap.{StateMap}
use Rattle.abort_expansion.specs.Expansion.{IsExpandable, expanded, state_map}
use Rattle.abort_expansion.specs.Limits.{KeepsLimits}

-- this is the chart's core chart, and these are the states for which its states stand
pub record IsExpansion (c : Chart) (core : Chart) (map : StateMap) : Type 0 where
  pub expandable : IsExpandable c
  pub limits : KeepsLimits c
  pub core_is : core ≡ expanded c
  pub stands_for : map.states ≡ state_map c

-- it has none for this reason: of the two limits no chart passes that of regions. A refusal of memory says nothing of the
-- chart
abbrev pub LacksCore : Chart → ExpandFault → Type 0
LacksCore c fault.Limit = ¬ IsExpandable c
LacksCore c fault.Memory = Unit {0}
