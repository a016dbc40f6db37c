use Rattle.node_sources.proofs.NodesTold.{sources_tell}
use Rattle.node_sources.proofs.extended.laws.author_sources_tell_nodes.Goals as goal

pub returns : goal.returns
returns c = sources_tell c.elements_tell_nodes.ensures
