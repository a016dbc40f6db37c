-- What is answered of a program: its graph, or why it has none.
use Rattle.std.specs.Prelude.{suc, ◌+◌, ◌≡◌, ◌≤◌}
use Rattle.sc_graph.specs.Limits.{node_limit, thread_limit}
use Rattle.sc_graph.specs.Program.{Program}
use Rattle.scl.specs.declared.program.Scl.{Scl}
use Rattle.scl.specs.Numbering.{Counts, in_row, numbered, pieces_of}
use Rattle.scl_graph.specs.declared.fault.GraphFault.{GraphFault}
use Rattle.scl_graph.specs.declared.fault.GraphFault.TheVariants as fault
use Rattle.scl_graph.specs.Graph.{program_of}
use Rattle.scl_graph.specs.Loops.{HasNoEmptyLoop, IsFirstEmptyLoop}

-- the graph of a text that counts this has no more nodes and threads than an image may: beside those of the text there
-- are the root's end, and the root
pub record FitsImage (c : Counts) : Type 0 where
  pub nodes : suc c.nodes + c.lower ≤ node_limit
  pub threads : suc c.threads ≤ thread_limit

abbrev pub counts_in : Scl → Counts
counts_in p = (in_row (pieces_of p.body)).counts

-- this is the graph of the program
pub record IsGraph (p : Scl) (q : Program) : Type 0 where
  pub no_loop : HasNoEmptyLoop (numbered p).root
  pub fits : FitsImage (counts_in p)
  pub is : q ≡ program_of (numbered p)

-- it has none for this reason. An empty loop goes before what is too much
abbrev pub LacksGraph : Scl → GraphFault → Type 0
LacksGraph p (fault.EmptyLoop name) = IsFirstEmptyLoop (numbered p).root name
LacksGraph p fault.Limit = HasNoEmptyLoop (numbered p).root × ¬ FitsImage (counts_in p)
LacksGraph p fault.Memory = Unit {0}
