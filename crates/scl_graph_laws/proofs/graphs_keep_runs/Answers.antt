use Rattle.scl_graph_laws.proofs.Graphs.{graph_keeps}
use Rattle.scl_graph_laws.proofs.graphs_keep_runs.Goals as goal

pub returns : goal.returns
returns c = graph_keeps
