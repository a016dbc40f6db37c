use Rattle.std.proofs.Common.{◌≡◌, ◌+◌, ◌≤◌, ◌++◌, drop}
use Rattle.sc_graph.specs.Limits.{count_limit}
use Rattle.scl_graph.specs.Counting.{AreSmall, branches_counts}
use Rattle.scl_graph.specs.Inside.Laying.{children}
use Rattle.scl_graph.proofs.laying.children_of.Given as goal

abbrev pub invariant-loop-place : goal.invariant-loop-place
invariant-loop-place l = record {
  numbered : l.threads ++ children (drop l.place l.branches) l.thread ≡ children l.branches l.first;
  small : AreSmall (branches_counts (drop l.place l.branches));
  room : l.thread + (branches_counts (drop l.place l.branches)).threads ≤ count_limit;
}
