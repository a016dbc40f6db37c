use Rattle.std.proofs.Common.{◌≡◌, ◌++◌, map, drop}
use Rattle.node_elements.specs.Points.{in_branches, in_row, points_of}
use Rattle.node_sources.specs.Labels.{label_at}
use Rattle.node_sources.proofs.labels.+labels.Given as goal

abbrev pub invariant-put_row-loop-statement : goal.invariant-put_row-loop-statement
invariant-put_row-loop-statement l =
    l.labels ++ map label_at (in_row (map points_of (drop l.statement-index l.statements)))
    ≡ l.fn.labels ++ map label_at (in_row (map points_of l.statements))

abbrev pub invariant-put_statement-loop-branch : goal.invariant-put_statement-loop-branch
invariant-put_statement-loop-branch l =
    l.labels ++ map label_at (in_branches (map (map points_of) (drop l.branch-index l.branch-items)))
    ≡ l.fn.labels ++ map label_at (points_of l.statement)
