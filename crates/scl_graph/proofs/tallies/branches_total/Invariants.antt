use Rattle.std.proofs.Common.{◌≡◌, ◌+◌, drop}
use Rattle.scl_graph.specs.Inside.Tallies.{branches_total}
use Rattle.scl_graph.proofs.tallies.branches_total.Given as goal

abbrev pub invariant-loop-branch : goal.invariant-loop-branch
invariant-loop-branch l = record {
  nodes : l.counted.nodes + (branches_total (drop l.branch-index l.branches)).nodes ≡ (branches_total l.branches).nodes;
  threads : l.counted.threads + (branches_total (drop l.branch-index l.branches)).threads ≡ (branches_total l.branches).threads;
  lower : l.counted.lower + (branches_total (drop l.branch-index l.branches)).lower ≡ (branches_total l.branches).lower;
  gotos : l.counted.jumps + (branches_total (drop l.branch-index l.branches)).jumps ≡ (branches_total l.branches).jumps;
}
