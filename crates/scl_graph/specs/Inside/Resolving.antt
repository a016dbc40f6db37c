-- The labels of a program resolved, or the first goto that leads back to itself.
use Rattle.std.specs.Prelude.{ℕ, suc, ◌+◌, ◌≡◌, ◌≤◌, List, [], map, nat_le, if◌then◌else◌}
use Rattle.sc_graph.specs.Limits.{count_limit, node_limit, thread_limit}
use Rattle.sc_graph.specs.declared.program.Node.{Node}
use Rattle.sc_graph.specs.declared.program.Thread.{Thread}
use Rattle.sc_graph.specs.declared.program.Variable.{Variable}
use Rattle.scl.specs.declared.statement.Statement.{Statement}
use Rattle.scl.specs.Block.{Block}
use Rattle.scl.specs.Numbering.{Numbered, in_row, numbered_body, piece_of}
use Rattle.scl_graph.specs.Graph.{program_by, target}
use Rattle.scl_graph.specs.Loops.{HasNoEmptyLoop, IsFirstEmptyLoop}
use Rattle.scl_graph.specs.declared.fault.GraphFault.{GraphFault}
use Rattle.scl_graph.specs.declared.fault.GraphFault.TheVariants as fault
use Rattle.scl_graph.specs.declared.hops.Hop.{Hop}
use Rattle.scl_graph.specs.declared.numbers_ahead.NumbersAhead.{NumbersAhead}
use Rattle.scl_graph.specs.declared.totals.Totals.{Totals}
use Rattle.scl_graph.specs.declared.numbers.NodeCounts.{NodeCounts as SmallCounts}
use Rattle.scl_graph.specs.declared.numbers.NodeNumbers.{NodeNumbers}
use Rattle.scl_graph.specs.declared.way.Way.{Way}
use Rattle.scl_graph.specs.declared.way.Way.TheVariants as leads
use Rattle.scl_graph.specs.Inside.Gathering.{Noted}
use Rattle.scl_graph.specs.Inside.Settling.{node_behind}

-- a program of these statements
abbrev pub numbered_of : List Variable → List Statement → Numbered
numbered_of variables statements = numbered_body variables (in_row (map piece_of statements))

abbrev pub root_of : List Statement → Block
root_of statements = (numbered_of [] statements).root

-- where its text begins, if it counts this
abbrev pub start : Totals → NumbersAhead
start c = record { node = 0; thread = 1; base = suc c.nodes; goto = 0 }

abbrev pub small_start : SmallCounts → NodeNumbers
small_start c = record { node = 0; thread = 1; base = suc c.nodes }

-- the number of its last node
abbrev pub last_node : Totals → ℕ
last_node c = suc c.nodes + c.lower

-- no number of a node is greater
abbrev pub small : ℕ → ℕ
small n = if nat_le n count_limit then n else 0

-- where a way leads by the labels and the table of what stands behind them
abbrev pub leads_by : Noted → List Hop → Way → ℕ
leads_by labels table (leads.At n) = n
leads_by labels table (leads.Jumps name) = small (node_behind labels table name)

-- there is no empty loop, and the table tells where each way leads if there are numbers for the nodes
pub record IsResolved (statements : List Statement) (last : ℕ) (labels : Noted) (table : List Hop) : Type 0 where
  pub no_loop : HasNoEmptyLoop (root_of statements)
  pub leads : last ≤ count_limit → (w : Way) → leads_by labels table w ≡ target (root_of statements) w

-- there are no more of these than an image may have
pub record FitsTotals (c : Totals) : Type 0 where
  pub nodes : suc c.nodes + c.lower ≤ node_limit
  pub threads : suc c.threads ≤ thread_limit

-- why the labels can't be resolved
abbrev pub IsUnresolved : List Statement → GraphFault → Type 0
IsUnresolved statements (fault.EmptyLoop name) = IsFirstEmptyLoop (root_of statements) name
IsUnresolved statements fault.Limit = ⊥
IsUnresolved statements fault.Memory = Unit {0}

-- these are the threads of a program of these statements, and their nodes
pub record AreThreadsLaid (target : Way → ℕ) (statements : List Statement) (threads : List Thread) (nodes : List Node) : Type 0 where
  pub made : (variables : List Variable) → record { variables = variables; threads = threads; nodes = nodes }
      ≡ program_by target (numbered_of variables statements)
