use Rattle.chart_reader.proofs.OneChartAnswer.{one_fault}
use Rattle.chart_reader.proofs.Exactly.{one_chart, no_fault}
use Rattle.chart_reader.proofs.laws.chart_texts_have_one_answer.Goals as goal

pub returns : goal.returns
returns c = record { one_chart = one_chart; no_fault = no_fault; one_fault = one_fault }
