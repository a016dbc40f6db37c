use Rattle.sc_graph.proofs.Choosing.{steps_enabled, priority_replay, runs_by_priority}
use Rattle.sc_graph.proofs.laws.laws_of_tables.Goals as goal

pub returns : goal.returns
returns c = record {
  enabled = steps_enabled;
  chosen = priority_replay;
  all_chosen = runs_by_priority;
}
