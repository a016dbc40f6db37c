-- Which nodes follow by protocol edges, and of what the order of priorities is made.
use Rattle.std.specs.Prelude.{ℕ, ◌≡◌, List, Contains}
use Rattle.sc_graph.specs.declared.links.Links.{Links}
use Rattle.sc_graph.specs.Links.{Tells}
use Rattle.sc_graph.specs.Program.{Program}
use Rattle.sc_graph.specs.Threads.{ConcurrentNodes}
use Rattle.sc_graph.specs.Valid.{IsFormed}

-- one of the nodes, and concurrent with node m
abbrev pub IsFollower : Program → ℕ → List ℕ → ℕ → Type 0
IsFollower p m nodes n = Contains nodes n × ConcurrentNodes p m n

-- a formed program, its links and its edges
pub record IsOrdered (p : Program) (l : Links) (edges : Program) : Type 0 where
  pub formed : IsFormed p
  pub told : Tells p l
  pub edges_of : edges ≡ p
