use Rattle.scl_graph_laws.proofs.Texts.{program_mirrors}
use Rattle.scl_graph_laws.proofs.RunsKept.{program_keeps_runs}
use Rattle.scl_graph_laws.proofs.programs_keep_runs.Goals as goal

pub returns : goal.returns
returns c = record { graph = program_mirrors; runs = program_keeps_runs }
