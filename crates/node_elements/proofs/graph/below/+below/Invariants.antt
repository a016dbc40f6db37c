use Rattle.std.proofs.Common.{◌≡◌, ◌++◌, map, drop}
use Rattle.node_elements.specs.GraphOrigins.{behind_branches, behind_row, below_branches, below_row, piece_of}
use Rattle.node_elements.proofs.graph.below.+below.Given as goal

abbrev pub invariant-put_below-loop-statement : goal.invariant-put_below-loop-statement
invariant-put_below-loop-statement l = record {
  origins : l.origins ++ below_row (map piece_of (drop l.statement-index l.statements)) l.here ≡ l.fn.origins ++ below_row
      (map piece_of l.statements) l.number;
  next : behind_row (map piece_of (drop l.statement-index l.statements)) l.here ≡ behind_row (map piece_of l.statements) l.number;
}

abbrev pub invariant-put_below_of-loop-branch : goal.invariant-put_below_of-loop-branch
invariant-put_below_of-loop-branch l = record {
  origins : l.origins ++ below_branches (map (map piece_of) (drop l.branch-index l.branch-items)) l.here ≡ l.fn.origins ++
      (piece_of l.statement).below l.number;
  next : behind_branches (map (map piece_of) (drop l.branch-index l.branch-items)) l.here ≡ (piece_of l.statement).behind l.number;
}
