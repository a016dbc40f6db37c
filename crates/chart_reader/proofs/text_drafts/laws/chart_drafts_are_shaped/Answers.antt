use Rattle.chart_reader.proofs.ShapedDrafts.{draft_is_shaped}
use Rattle.chart_reader.proofs.text_drafts.laws.chart_drafts_are_shaped.Goals as goal

pub returns : goal.returns
returns c = record { shaped = draft_is_shaped }
