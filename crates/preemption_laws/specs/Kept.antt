-- The law of the expansion of aborts, of each chart with a valid image, however aborts lie in others: it is kept by its core chart, which does no more.
use Rattle.sc_graph.specs.Tick.{AreAccepted}
use Rattle.core_charts.specs.declared.features.Features.TheVariants as features
use Rattle.core_charts.specs.Chart.{Chart}
use Rattle.core_charts.specs.Rules.{IsChart}
use Rattle.abort_expansion.specs.Expansion.{expanded}
use Rattle.chart_lowering_laws.specs.Laws.{IsLowering}
use Rattle.abort_expansion_laws.specs.Ticks.{Keeps}
use Rattle.abort_expansion_laws.specs.Preemption.{chart_machine, SeenAlike, HasImage}

-- each list of ends of the chart, over inputs that are accepted, has one of its core chart that is seen alike
abbrev pub ChartsAreKept : Type 0
ChartsAreKept =
    (c : Chart) → IsChart features.Extended c → (image : HasImage c) → IsLowering (expanded c) image.scl →
    Keeps (chart_machine c) (chart_machine (expanded c)) (AreAccepted image.program) (SeenAlike c)

-- and each one of the core chart has one of the chart
abbrev pub CoreChartsDoNoMore : Type 0
CoreChartsDoNoMore =
    (c : Chart) → IsChart features.Extended c → (image : HasImage c) → IsLowering (expanded c) image.scl →
    Keeps (chart_machine (expanded c)) (chart_machine c) (AreAccepted image.program) (λ e d. SeenAlike c d e)
