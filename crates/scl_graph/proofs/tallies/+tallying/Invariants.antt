use Rattle.std.proofs.Common.{◌≡◌, ◌++◌, drop, map}
use Rattle.scl_graph.specs.Inside.Tallies.{tally_of}
use Rattle.scl_graph.specs.Inside.Totals.{AreCounted, branches_totals, totals_of_all}
use Rattle.scl_graph.proofs.tallies.+tallying.Given as goal

abbrev pub invariant-tallies_of-loop-statement : goal.invariant-tallies_of-loop-statement
invariant-tallies_of-loop-statement l = record {
  made : l.tallies.items ++ map tally_of (drop l.statement-index l.statements) ≡ map tally_of l.statements;
  counted : AreCounted (totals_of_all (drop l.statement-index l.statements));
}

abbrev pub invariant-tally_of-loop-branch : goal.invariant-tally_of-loop-branch
invariant-tally_of-loop-branch l = record {
  made : l.parts ++ map (map tally_of) (drop l.branch-index l.branch-items) ≡ map (map tally_of) l.branch-items;
  counted : AreCounted (branches_totals (drop l.branch-index l.branch-items));
}
