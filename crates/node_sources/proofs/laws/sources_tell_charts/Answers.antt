use Rattle.node_sources.proofs.SourcesTold.{sources_tell}
use Rattle.node_sources.proofs.laws.sources_tell_charts.Goals as goal

pub returns : goal.returns
returns c = sources_tell c.elements_tell_nodes.ensures c.places_tell_texts.ensures
