use Rattle.std.proofs.Common.{◌≡◌, ◌++◌, map, drop}
use Rattle.node_sources.specs.SclOrigins.{branch_spots, in_branches, in_row, spots_in}
use Rattle.node_sources.proofs.statements.+spots.Given as goal

abbrev pub invariant-put_row-loop-statement : goal.invariant-put_row-loop-statement
invariant-put_row-loop-statement l =
    l.spots ++ in_row (map spots_in (drop l.statement-index l.statements)) ≡ l.fn.spots ++ in_row (map spots_in l.statements)

abbrev pub invariant-put_statement-loop-branch : goal.invariant-put_statement-loop-branch
invariant-put_statement-loop-branch l =
    l.spots ++ in_branches (branch_spots (drop l.branch-index l.branch-items)) ≡ l.fn.spots ++ spots_in l.statement
