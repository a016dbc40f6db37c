-- The instantaneous edges from one node, by its step: to where the thread goes on or to the join behind where it
-- ends, and to where the children of a fork begin. Together they are all instantaneous edges.
use Rattle.std.specs.Prelude.{ℕ, ◌≡◌, ◌⊎◌, Some, List, [], Contains}
use Rattle.sc_graph.specs.declared.program.Step.{Step}
use Rattle.sc_graph.specs.declared.program.Step.TheVariants as step
use Rattle.sc_graph.specs.Program.{Program, owner_of, entry_of}
use Rattle.sc_graph.specs.Protocol.{successors}
use Rattle.sc_graph.specs.Threads.{IsFork}
use Rattle.program_edges.specs.declared.next.NextNodes.{NextNodes}

-- the node is one of the two
abbrev pub IsNext : NextNodes → ℕ → Type 0
IsNext nodes n = (nodes.first ≡ Some n) ⊎ (nodes.second ≡ Some n)

-- n is the join of a fork with a child that owns node m
pub record IsJoinBehind (p : Program) (m n : ℕ) : Type 0 where
  pub fork : ℕ
  pub thread : ℕ
  pub children : List ℕ
  pub child : ℕ
  pub is_fork : IsFork p fork thread children n
  pub among : Contains children child
  pub owner : owner_of p m ≡ Some child

-- a thread goes on at n from node m, or ends there and n is the join behind
abbrev pub IsOn : Program → ℕ → Step → ℕ → Type 0
IsOn p m step.Exit n = IsJoinBehind p m n
IsOn p m s n = Contains (successors s) n

abbrev pub children_of : Step → List ℕ
children_of (step.Fork children join) = children
children_of other = []

-- node n is where one of these threads begins
abbrev pub IsEntry : Program → List ℕ → ℕ → Type 0
IsEntry p children n = (k : ℕ) × Contains children k × (entry_of p k ≡ Some n)
