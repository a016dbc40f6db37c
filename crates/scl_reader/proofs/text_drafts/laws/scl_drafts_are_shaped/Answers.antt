use Rattle.scl_reader.proofs.ShapedDrafts.{draft_is_shaped}
use Rattle.scl_reader.proofs.text_drafts.laws.scl_drafts_are_shaped.Goals as goal

pub returns : goal.returns
returns c = record { shaped = draft_is_shaped }
