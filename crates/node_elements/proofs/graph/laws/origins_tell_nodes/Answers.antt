use Rattle.node_elements.proofs.GraphTelling.{origins_tell}
use Rattle.node_elements.proofs.graph.laws.origins_tell_nodes.Goals as goal

pub returns : goal.returns
returns c = origins_tell
