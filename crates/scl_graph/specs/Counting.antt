-- What a text counts, in the numbers that the graph has room for.
use Rattle.std.specs.Prelude.{suc, ◌+◌, ◌≤◌, List, map}
use Rattle.sc_graph.specs.Limits.{node_limit}
use Rattle.scl.specs.declared.statement.Statement.{Statement}
use Rattle.scl.specs.Numbering.{Counts as AllCounts, in_row, all_branch_counts, piece_of}
use Rattle.scl_graph.specs.declared.numbers.NodeCounts.{NodeCounts}

-- none of them is above the limit of nodes
pub record AreSmall (c : NodeCounts) : Type 0 where
  pub nodes : c.nodes ≤ node_limit
  pub threads : c.threads ≤ node_limit
  pub lower : c.lower ≤ node_limit

abbrev pub sum : NodeCounts → NodeCounts → NodeCounts
sum a b = record { nodes = a.nodes + b.nodes; threads = a.threads + b.threads; lower = a.lower + b.lower }

-- without the gotos
abbrev pub sizes : AllCounts → NodeCounts
sizes c = record { nodes = c.nodes; threads = c.threads; lower = c.lower }

abbrev pub counts_of : Statement → NodeCounts
counts_of s = sizes (piece_of s).counts

abbrev pub counts_of_all : List Statement → NodeCounts
counts_of_all statements = sizes (in_row (map piece_of statements)).counts

abbrev pub as_branch : NodeCounts → NodeCounts
as_branch c = record { nodes = 0; threads = suc c.threads; lower = suc c.nodes + c.lower }

abbrev pub branches_counts : List (List Statement) → NodeCounts
branches_counts branches = sizes (all_branch_counts (map (λ b. map piece_of b) branches))
