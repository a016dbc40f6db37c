use Rattle.node_elements.proofs.LoweringTelling.{origins_tell}
use Rattle.node_elements.proofs.lowering.laws.origins_tell_points.Goals as goal

pub returns : goal.returns
returns c = origins_tell
