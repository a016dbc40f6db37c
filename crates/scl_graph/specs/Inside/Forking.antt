-- What was laid of the threads that a text forks. A goto's number makes no difference.
use Rattle.std.specs.Prelude.{ℕ, suc, ◌+◌, ◌≡◌, ◌≤◌, Option, List, ◌++◌, ◌∷◌, [], map}
use Rattle.sc_graph.specs.declared.program.Node.{Node}
use Rattle.sc_graph.specs.declared.program.Thread.{Thread}
use Rattle.scl.specs.declared.statement.Statement.{Statement}
use Rattle.scl.specs.Block.{Block}
use Rattle.scl.specs.Numbering.{in_row, piece_of, branches_from, thread_body}
use Rattle.scl_graph.specs.declared.numbers.NodeCounts.{NodeCounts}
use Rattle.scl_graph.specs.declared.numbers.NodeNumbers.{NodeNumbers}
use Rattle.scl_graph.specs.declared.way.Way.{Way}
use Rattle.scl_graph.specs.Graph.{of_thread, below, among, thread, forked, forked_among}
use Rattle.scl_graph.specs.Counting.{AreSmall, as_branch, branches_counts}
use Rattle.scl_graph.specs.Inside.Laying.{past, text, with_goto}
use Rattle.sc_graph.specs.Limits.{count_limit}

-- within a branch whose text counts this: its thread has the next number, its nodes begin where the next thread's do
abbrev pub inside : NodeNumbers → NodeCounts → NodeNumbers
inside at c = record { node = at.base; thread = suc at.thread; base = at.base + suc c.nodes }

-- behind such a branch
abbrev pub past_branch : NodeNumbers → NodeCounts → NodeNumbers
past_branch at c = past at (as_branch c)

-- there are numbers for such a branch
pub record HasBranchRoom (at : NodeNumbers) (c : NodeCounts) : Type 0 where
  pub thread : at.thread + suc c.threads ≤ count_limit
  pub base : at.base + (suc c.nodes + c.lower) ≤ count_limit

-- there are numbers for these branches
pub record HasBranchesRoom (at : NodeNumbers) (branches : List (List Statement)) : Type 0 where
  pub small : AreSmall (branches_counts branches)
  pub thread : at.thread + (branches_counts branches).threads ≤ count_limit
  pub base : at.base + (branches_counts branches).lower ≤ count_limit

-- what a thread has to do whose text begins at these numbers
abbrev pub body : List Statement → NodeNumbers → ℕ → Block
body statements at g = thread_body (in_row (map piece_of statements)) at.node (with_goto at g)

-- behind the old ones this thread and its nodes were put
pub record IsThreadLaid (target : Way → ℕ) (parent : Option ℕ) (t : ℕ) (statements : List Statement) (at : NodeNumbers) (olds news : List Thread)
    (old new : List Node) : Type 0 where
  pub threads : (g : ℕ) → news ≡ olds ++ thread target parent (body statements at g) ∷ []
  pub nodes : (g : ℕ) → new ≡ old ++ of_thread target t (body statements at g)

-- behind the old ones the threads that thread t forks in these statements were put, and their nodes
pub record AreForkedLaid (target : Way → ℕ) (t : ℕ) (statements : List Statement) (at : NodeNumbers) (olds news : List Thread)
    (old new : List Node) : Type 0 where
  pub threads : (g : ℕ) → news ≡ olds ++ forked target t (text statements at g)
  pub nodes : (g : ℕ) → new ≡ old ++ below target (text statements at g)

-- behind the old ones these branches of a fork of thread t were put, with the threads that they fork
pub record AreBranchesLaid (target : Way → ℕ) (t : ℕ) (branches : List (List Statement)) (at : NodeNumbers) (olds news : List Thread)
    (old new : List Node) : Type 0 where
  pub threads : (g : ℕ) → news ≡ olds ++ forked_among target t (branches_from (map (map piece_of) branches) (with_goto at g))
  pub nodes : (g : ℕ) → new ≡ old ++ among target (branches_from (map (map piece_of) branches) (with_goto at g))
