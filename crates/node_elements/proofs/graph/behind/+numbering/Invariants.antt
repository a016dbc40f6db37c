use Rattle.std.proofs.Common.{◌≡◌, map, drop}
use Rattle.node_elements.specs.GraphOrigins.{behind_branches, behind_row, piece_of}
use Rattle.node_elements.proofs.graph.behind.+numbering.Given as goal

abbrev pub invariant-behind_row-loop-statement : goal.invariant-behind_row-loop-statement
invariant-behind_row-loop-statement l = behind_row (map piece_of (drop l.statement-index l.statements)) l.here ≡ behind_row
    (map piece_of l.statements) l.number

abbrev pub invariant-behind-loop-branch : goal.invariant-behind-loop-branch
invariant-behind-loop-branch l = behind_branches (map (map piece_of) (drop l.branch-index l.branch-items)) l.here ≡ (piece_of l.statement).behind
    l.number
