use Rattle.std.proofs.Common.{string_bytes}
use Rattle.drawing.proofs.Putting.{finished}
use Rattle.drawing.proofs.labels.further_text.Goals as goal

pub returns : goal.returns
returns c = finished string_bytes _ _ _ _ c.new-text.ensures c.put_further.ensures c.finish.ensures
