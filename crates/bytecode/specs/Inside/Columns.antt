-- The columns of the threads and of the nodes, of one length each.
use Rattle.std.specs.Prelude.{ℕ, ◌≡◌, Bool, List, length}
use Rattle.sc_graph.specs.declared.program.Thread.{Thread}
use Rattle.sc_graph.specs.declared.program.Node.{Node}

-- so many threads, and a bound for each
pub record AreThreads (threads : List Thread) (bounds : List ℕ) (count : ℕ) : Type 0 where
  pub threads_counted : length threads ≡ count
  pub bounds_counted : length bounds ≡ count

-- so many nodes, and an entry for each in the tables
pub record AreNodes (nodes : List Node) (priorities weights : List ℕ) (end_bits : List Bool) (count : ℕ) : Type 0 where
  pub nodes_counted : length nodes ≡ count
  pub priorities_counted : length priorities ≡ count
  pub weights_counted : length weights ≡ count
  pub end_bits_counted : length end_bits ≡ count
