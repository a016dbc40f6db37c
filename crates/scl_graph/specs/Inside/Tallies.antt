-- What statements count, tallied: of each statement, and of the statements in each of its lists.
use Rattle.std.specs.Prelude.{ℕ, List, [], ◌∷◌, slice_get, unwrap_or}
use Rattle.scl.specs.declared.statement.Statement.{Statement}
use Rattle.scl.specs.declared.statement.Statement.TheOpen.{Statement-F}
use Rattle.scl.specs.declared.statement.Statement.TheOpen as text
use Rattle.scl.specs.declared.statement.Statement.TheFolds.{fold-Statement}
use Rattle.scl_graph.specs.declared.numbers.NodeCounts.{NodeCounts}
use Rattle.scl_graph.specs.declared.tallies.Tally.{Tally}
use Rattle.scl_graph.specs.declared.tallies.Tally.TheViews.{out-Tally, roll-Tally}
use Rattle.scl_graph.specs.declared.totals.Totals.{Totals}
use Rattle.scl_graph.specs.Inside.Totals.{as_branch, sum}

abbrev pub of_nodes : ℕ → Totals
of_nodes n = record { nodes = n; threads = 0; lower = 0; jumps = 0 }

-- what statements count that have these tallies
abbrev pub total : List Tally → Totals
total [] = of_nodes 0
total (t ∷ tallies) = sum (out-Tally t).totals (total tallies)

-- and the branches of a fork
abbrev pub branches_total : List (List Tally) → Totals
branches_total [] = of_nodes 0
branches_total (b ∷ branches) = sum (as_branch (total b)) (branches_total branches)

-- in the numbers that the graph has room for
abbrev pub sizes_of : Totals → NodeCounts
sizes_of c = record { nodes = c.nodes; threads = c.threads; lower = c.lower }

abbrev pub tallied : Totals → List (List Tally) → Tally
tallied c parts = roll-Tally (record { totals = c; parts = parts })

abbrev pub if_tally : List Tally → List Tally → Tally
if_tally a b = tallied (sum (of_nodes 1) (sum (total a) (total b))) (a ∷ b ∷ [])

abbrev pub fork_tally : List (List Tally) → Tally
fork_tally branches = tallied (sum (of_nodes 2) (branches_total branches)) branches

abbrev pub tally : Statement-F Tally → Tally
tally (text.Assign x e) = tallied (of_nodes 1) []
tally (text.Label name) = tallied (of_nodes 0) []
tally (text.Goto name) = tallied (record { nodes = 0; threads = 0; lower = 0; jumps = 1 }) []
tally text.Pause = tallied (of_nodes 2) []
tally (text.If e a b) = if_tally a b
tally (text.Fork branches) = fork_tally branches

abbrev pub tally_of : Statement → Tally
tally_of = fold-Statement Tally tally

-- the tallies of the list of this number
abbrev pub part : Tally → ℕ → List Tally
part t i = unwrap_or (slice_get (out-Tally t).parts i) []
