use Rattle.std.proofs.Common.{◌≡◌, ◌+◌, drop}
use Rattle.scl_graph.specs.Inside.Tallies.{total}
use Rattle.scl_graph.proofs.tallies.sizes.Given as goal

abbrev pub invariant-loop-tally : goal.invariant-loop-tally
invariant-loop-tally l = record {
  nodes : l.counted.nodes + (total (drop l.tally-index l.tallies)).nodes ≡ (total l.tallies).nodes;
  threads : l.counted.threads + (total (drop l.tally-index l.tallies)).threads ≡ (total l.tallies).threads;
  lower : l.counted.lower + (total (drop l.tally-index l.tallies)).lower ≡ (total l.tallies).lower;
}
