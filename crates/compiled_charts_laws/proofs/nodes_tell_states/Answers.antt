use Rattle.compiled_charts_laws.proofs.Told.{nodes_stand}
use Rattle.compiled_charts_laws.proofs.nodes_tell_states.Goals as goal

pub returns : goal.returns
returns c = nodes_stand
