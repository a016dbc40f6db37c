-- A table that falls along protocol edges, variable by variable.
use Rattle.std.specs.Prelude.{ℕ, ◌<◌, List, slice_index, Contains}
use Rattle.sc_graph.specs.Program.{Program}
use Rattle.sc_graph.specs.Threads.{ConcurrentNodes}
use Rattle.program_edges.specs.Users.{InitsAt, UpdatesAt, ReadsAt}

-- the table falls from node m to node n, if they are concurrent
pub record FallsTo (p : Program) (q : List ℕ) (m n : ℕ) : Type 0 where
  pub falls : ConcurrentNodes p m n → slice_index q n < slice_index q m

-- it falls from each of the first nodes to each concurrent one of the second
abbrev pub AllFall : Program → List ℕ → List ℕ → List ℕ → Type 0
AllFall p q firsts seconds = (m n : ℕ) → Contains firsts m → Contains seconds n → FallsTo p q m n

-- it falls along the protocol edges that are about variable x
pub record FallsOn (p : Program) (q : List ℕ) (x : ℕ) : Type 0 where
  pub init_update : (m n : ℕ) → InitsAt p x m → UpdatesAt p x n → FallsTo p q m n
  pub init_read : (m n : ℕ) → InitsAt p x m → ReadsAt p x n → FallsTo p q m n
  pub update_read : (m n : ℕ) → UpdatesAt p x m → ReadsAt p x n → FallsTo p q m n
