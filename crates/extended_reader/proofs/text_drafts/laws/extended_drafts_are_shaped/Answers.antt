use Rattle.extended_reader.proofs.ShapedDrafts.{draft_is_shaped}
use Rattle.extended_reader.proofs.text_drafts.laws.extended_drafts_are_shaped.Goals as goal

pub returns : goal.returns
returns c = record { shaped = draft_is_shaped }
