use Rattle.node_sources.proofs.OnePlacedChart.{no_fault, one_chart}
use Rattle.node_sources.proofs.chart_places.laws.placed_texts_have_one_answer.Goals as goal

pub returns : goal.returns
returns c = record { one_chart = one_chart; no_fault = no_fault }
