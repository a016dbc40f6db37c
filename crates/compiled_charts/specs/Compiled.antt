-- What a compiled chart is.
use Rattle.std.specs.Prelude.{ℕ, ◌≡◌, Option, List}
use Rattle.core_charts.specs.declared.features.Features.TheVariants as features
use Rattle.core_charts.specs.Chart.{Chart}
use Rattle.core_charts.specs.Rules.{IsChart}
use Rattle.bytecode.specs.Image.{Image}
use Rattle.compiler.specs.Charts.{IsImageOfChart}
use Rattle.node_states.specs.Nodes.{state_count}
use Rattle.node_states.specs.StandsFor.{stands_for}

-- the image of a chart, how many states that has, and for which of them each node of the image stands
pub record CompiledChart : Type 0 where
  pub image : Image
  pub states : ℕ
  pub nodes : List (Option ℕ)

pub record IsCompiledChart (chart : Chart) (compiled : CompiledChart) : Type 0 where
  pub rules : IsChart features.Extended chart
  pub image : IsImageOfChart chart compiled.image
  pub states : compiled.states ≡ state_count chart
  pub nodes : compiled.nodes ≡ stands_for chart
