use Rattle.node_sources.proofs.SclSourcesTold.{sources_tell_scl}
use Rattle.node_sources.proofs.laws.sources_tell_scl.Goals as goal

pub returns : goal.returns
returns c = sources_tell_scl c.origins_tell_nodes.ensures
