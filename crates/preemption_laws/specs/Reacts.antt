-- Each chart that has a valid image reacts in one way: whatever inputs the image accepts, there is a list of ends, one for each tick, and no other.
use Rattle.std.specs.Prelude.{◌≡◌, List}
use Rattle.sc_graph.specs.Tick.{Inputs, AreAccepted}
use Rattle.core_charts.specs.declared.features.Features.TheVariants as features
use Rattle.core_charts.specs.Chart.{Chart}
use Rattle.core_charts.specs.Rules.{IsChart}
use Rattle.chart_machine.specs.declared.standing.Configuration.{Configuration}
use Rattle.chart_machine.specs.Table.{table}
use Rattle.chart_machine.specs.Machine.{initial}
use Rattle.abort_expansion.specs.Expansion.{expanded}
use Rattle.chart_lowering_laws.specs.Laws.{IsLowering}
use Rattle.abort_expansion_laws.specs.Ticks.{Reaction, AllOf}
use Rattle.abort_expansion_laws.specs.Preemption.{chart_machine, HasImage}

-- there is a list of ends, each of a tick that starts from the one before, and no other one
pub record ReactsInOneWay (c : Chart) (ticks : List Inputs) : Type 0 where
  pub ends : List Configuration
  pub reacts : Reaction (chart_machine c) ticks (initial (table c)) ends
  pub only : (others : List Configuration) → Reaction (chart_machine c) ticks (initial (table c)) others → others ≡ ends

-- so it is of each chart with a valid image, the program of which is the lowering of its core chart, however aborts lie in others
abbrev pub ChartsReact : Type 0
ChartsReact =
    (c : Chart) → IsChart features.Extended c → (image : HasImage c) → IsLowering (expanded c) image.scl → (ticks : List Inputs) →
    AllOf (AreAccepted image.program) ticks → ReactsInOneWay c ticks
