use Rattle.abort_expansion_laws.proofs.StatesMapped.{states_mapped_all}
use Rattle.abort_expansion_laws.proofs.states_are_mapped.Goals as goal

pub returns : goal.returns
returns c = states_mapped_all
