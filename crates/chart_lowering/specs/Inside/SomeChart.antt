-- Charts of texts and core charts alike.
use Rattle.core_charts.specs.declared.features.Features.{Features}
use Rattle.core_charts.specs.Chart.{Chart}
use Rattle.core_charts.specs.Rules.{IsChart}

-- it keeps the rules and limits of charts with some features
abbrev pub IsSomeChart : Chart → Type 0
IsSomeChart c = (f : Features) × IsChart f c
