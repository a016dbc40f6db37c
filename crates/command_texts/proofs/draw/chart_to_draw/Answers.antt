use Rattle.command_texts.proofs.Drawn.{chart_drawn}
use Rattle.command_texts.proofs.draw.chart_to_draw.Goals as goal

pub returns-in-Ok-scl_of_chart-clause-drawn : goal.returns-in-Ok-scl_of_chart-clause-drawn
returns-in-Ok-scl_of_chart-clause-drawn c = chart_drawn _ _ _ c.requires c.in-Ok.ensures.ok c.in-Ok-scl_of_chart.ensures.scl
