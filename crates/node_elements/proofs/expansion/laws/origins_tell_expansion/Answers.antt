use Rattle.node_elements.proofs.ExpansionTelling.{origins_tell}
use Rattle.node_elements.proofs.expansion.laws.origins_tell_expansion.Goals as goal

pub returns : goal.returns
returns c = origins_tell
