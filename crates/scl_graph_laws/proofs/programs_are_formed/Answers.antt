use Rattle.scl_graph_laws.proofs.Forming.{program_is_formed}
use Rattle.scl_graph_laws.proofs.programs_are_formed.Goals as goal

pub returns : goal.returns
returns c = program_is_formed
