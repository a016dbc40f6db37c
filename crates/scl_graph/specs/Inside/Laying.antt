-- What part of a thread's text was laid. A goto's number makes no difference.
use Rattle.std.specs.Prelude.{ℕ, suc, ◌+◌, ◌≡◌, ◌≤◌, List, [], ◌∷◌, ◌++◌, map}
use Rattle.sc_graph.specs.declared.program.Node.{Node}
use Rattle.sc_graph.specs.declared.program.Step.{Step}
use Rattle.sc_graph.specs.declared.program.Step.TheVariants as step
use Rattle.sc_values.specs.declared.assignment.CodedAssignment.{CodedAssignment}
use Rattle.sc_values.specs.declared.assignment.CodedAssignment.TheVariants as coded
use Rattle.sc_graph.specs.Limits.{count_limit}
use Rattle.scl.specs.declared.statement.Statement.{Statement}
use Rattle.scl.specs.declared.statement.Statement.TheOpen.{Statement-F}
use Rattle.scl.specs.declared.statement.Statement.TheOpen as tree
use Rattle.scl.specs.declared.statement.Statement.TheViews.{out-Statement}
use Rattle.scl.specs.Block.{Block, End}
use Rattle.scl.specs.Numbering.{in_row, piece_of}
use Rattle.scl.specs.Numbering as numbering
use Rattle.scl_graph.specs.declared.numbers.NodeCounts.{NodeCounts}
use Rattle.scl_graph.specs.declared.numbers.NodeNumbers.{NodeNumbers}
use Rattle.scl_graph.specs.declared.way.Way.{Way}
use Rattle.scl_graph.specs.declared.way.Way.TheVariants as leads
use Rattle.scl_graph.specs.Graph.{own}
use Rattle.scl_graph.specs.Counting.{AreSmall, counts_of_all}

-- the numbers, and that of the next goto
abbrev pub with_goto : NodeNumbers → ℕ → numbering.Numbers
with_goto at g = record { node = at.node; thread = at.thread; base = at.base; goto = g }

-- the numbers behind what counts this
abbrev pub past : NodeNumbers → NodeCounts → NodeNumbers
past at c = record { node = at.node + c.nodes; thread = at.thread + c.threads; base = at.base + c.lower }

-- the numbers behind so many nodes of the thread
abbrev pub after : ℕ → NodeNumbers → NodeNumbers
after n at = record { node = n + at.node; thread = at.thread; base = at.base }

-- there are numbers for what counts this
pub record HasRoom (at : NodeNumbers) (c : NodeCounts) : Type 0 where
  pub small : AreSmall c
  pub node : at.node + c.nodes ≤ count_limit
  pub thread : at.thread + c.threads ≤ count_limit
  pub base : at.base + c.lower ≤ count_limit

-- what is to be done from these statements on, up to their end
abbrev pub text : List Statement → NodeNumbers → ℕ → Block
text statements at g = (in_row (map piece_of statements)).made (with_goto at g) (End 0)

-- where a thread goes on at a statement whose node has number n, if it has one, and behind which it goes on this way
abbrev pub way_at : Statement-F Statement → ℕ → Way → Way
way_at (tree.Label name) n behind = behind
way_at (tree.Goto name) n behind = leads.Jumps name
way_at other n behind = leads.At n

abbrev pub way_in : List Statement → ℕ → Way → Way
way_in [] n behind = behind
way_in (s ∷ rest) n behind = way_at (out-Statement s) n (way_in rest n behind)

-- where a thread goes on behind a statement, at which it goes on the way `ahead`
abbrev pub way_behind : Statement-F Statement → List Statement → ℕ → Way → Way → Way
way_behind (tree.Label name) rest n ahead behind = ahead
way_behind other rest n ahead behind = way_in rest n behind

-- the threads of a fork's branches, of which the first has number n
abbrev pub children : List (List Statement) → ℕ → List ℕ
children [] n = []
children (b ∷ branches) n = n ∷ children branches (n + suc (counts_of_all b).threads)

-- the step of an assignment, from its code
abbrev pub step_coded : ℕ → CodedAssignment → ℕ → Step
step_coded x (coded.Init code) next = step.Assign x code next
step_coded x (coded.Update f code) next = step.Update x f code next

-- behind the old nodes those of these statements were put
pub record IsLaid (target : Way → ℕ) (t : ℕ) (statements : List Statement) (at : NodeNumbers) (behind : Way) (old new : List Node) : Type 0 where
  pub each : (g : ℕ) → new ≡ old ++ own target t (text statements at g) behind
