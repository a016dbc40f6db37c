use Rattle.std.proofs.Common.{◌≡◌, ◌+◌, drop}
use Rattle.scl_graph.specs.Inside.Totals.{AreCounted, branches_totals, totals_of, totals_of_all}
use Rattle.scl_graph.proofs.totals.+totalling.Given as goal

abbrev pub invariant-statement_totals-loop-branch : goal.invariant-statement_totals-loop-branch
invariant-statement_totals-loop-branch l = record {
  counted : AreCounted l.total;
  nodes : l.total.nodes + (branches_totals (drop l.branch-index l.branch-items)).nodes ≡ (totals_of l.statement).nodes;
  threads : l.total.threads + (branches_totals (drop l.branch-index l.branch-items)).threads ≡ (totals_of l.statement).threads;
  lower : l.total.lower + (branches_totals (drop l.branch-index l.branch-items)).lower ≡ (totals_of l.statement).lower;
  gotos : l.total.jumps + (branches_totals (drop l.branch-index l.branch-items)).jumps ≡ (totals_of l.statement).jumps;
}

abbrev pub invariant-totals_of-loop-statement : goal.invariant-totals_of-loop-statement
invariant-totals_of-loop-statement l = record {
  counted : AreCounted l.total;
  nodes : l.total.nodes + (totals_of_all (drop l.statement-index l.statements)).nodes ≡ (totals_of_all l.statements).nodes;
  threads : l.total.threads + (totals_of_all (drop l.statement-index l.statements)).threads ≡ (totals_of_all l.statements).threads;
  lower : l.total.lower + (totals_of_all (drop l.statement-index l.statements)).lower ≡ (totals_of_all l.statements).lower;
  gotos : l.total.jumps + (totals_of_all (drop l.statement-index l.statements)).jumps ≡ (totals_of_all l.statements).jumps;
}
