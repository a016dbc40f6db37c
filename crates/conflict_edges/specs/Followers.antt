-- The nodes that must come after a node.
use Rattle.std.specs.Prelude.{ℕ, ◌⊎◌, Contains}
use Rattle.conflict_edges.specs.declared.edges.Followers.{Followers}
use Rattle.sc_graph.specs.Program.{Program}
use Rattle.sc_graph.specs.Threads.{ConcurrentNodes}
use Rattle.sc_graph.specs.Protocol.{ProtocolEdge}

-- the node stands in one of the two lists
abbrev pub IsListed : Followers → ℕ → Type 0
IsListed f n = Contains f.updates.now n ⊎ Contains f.reads.now n

-- a protocol edge leads from node m to exactly those nodes of the lists that are concurrent with it
pub record AreFollowers (p : Program) (m : ℕ) (f : Followers) : Type 0 where
  pub edge : (n : ℕ) → IsListed f n → ConcurrentNodes p m n → ProtocolEdge p m n
  pub each : (n : ℕ) → ProtocolEdge p m n → IsListed f n
