use Rattle.grammar.proofs.Told.{told, told_spelled, told_fault}
use Rattle.chart_reader.specs.ChartText.{chart_text}
use Rattle.chart_reader.proofs.Deepens.{is_language}
use Rattle.chart_reader.proofs.text_drafts.laws.chart_texts_are_told.Goals as goal

pub returns : goal.returns
returns c = record { told = told chart_text is_language; spelled = told_spelled chart_text is_language; faulty = told_fault chart_text is_language }
