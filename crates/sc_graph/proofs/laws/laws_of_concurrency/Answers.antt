use Rattle.sc_graph.proofs.Formed.{concurrent_swapped, never_own, never_below, meet_once}
use Rattle.sc_graph.proofs.laws.laws_of_concurrency.Goals as goal

pub returns : goal.returns
returns c = record {
  symmetric = concurrent_swapped;
  irreflexive = never_own;
  not_above = never_below;
  one_forking_thread = meet_once;
}
