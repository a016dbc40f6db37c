use Rattle.node_elements.proofs.Telling.{elements_tell}
use Rattle.node_elements.proofs.laws.elements_tell_nodes.Goals as goal

pub returns : goal.returns
returns c = elements_tell c.origins_tell_nodes.ensures c.origins_tell_points.ensures c.origins_tell_expansion.ensures
