-- The rules of pairs of nodes: no write conflict, and priorities along the two sorts of edges.
use Rattle.std.specs.Prelude.{ℕ, ◌≡◌, ◌<◌, ◌≤◌, Some, List, [], ◌∷◌, Contains}
use Rattle.sc_values.specs.Access.{Precedes, Clash}
use Rattle.sc_graph.specs.declared.program.Step.{Step}
use Rattle.sc_graph.specs.declared.program.Step.TheVariants as step
use Rattle.sc_graph.specs.declared.tables.Tables.{Tables}
use Rattle.sc_graph.specs.declared.place.Place.{Place}
use Rattle.sc_graph.specs.declared.place.Place.TheVariants as place
use Rattle.sc_graph.specs.Program.{Program, step_at, owner_of, entry_of}
use Rattle.sc_graph.specs.Threads.{IsFork, ConcurrentNodes}
use Rattle.sc_graph.specs.Accesses.{accesses}
use Rattle.sc_graph.specs.Tables.{priority}

-- the nodes of its own at which a thread goes on in the same tick
abbrev pub successors : Step → List ℕ
successors (step.Assign x code next) = next ∷ []
successors (step.Update x f code next) = next ∷ []
successors (step.Cond code on_true on_false) = on_true ∷ on_false ∷ []
successors (step.Join next) = next ∷ []
successors (step.Depth next) = next ∷ []
successors other = []

-- an instantaneous edge: to a successor, from a fork to a child's entry, from a child's exit to the join
pub data Instant (p : Program) (m n : ℕ) : Type 0 where
  by_successor : (s : Step) → step_at p m ≡ Some s → Contains (successors s) n → Instant p m n
  by_entry : (t : ℕ) (children : List ℕ) (j k : ℕ) → IsFork p m t children j → Contains children k
      → entry_of p k ≡ Some n → Instant p m n
  by_exit : (f t : ℕ) (children : List ℕ) (k : ℕ) → IsFork p f t children n → Contains children k
      → owner_of p m ≡ Some k → step_at p m ≡ Some step.Exit → Instant p m n

-- a protocol edge: of two concurrent nodes the first must come before the second
pub record ProtocolEdge (p : Program) (m n : ℕ) : Type 0 where
  pub concurrent : ConcurrentNodes p m n
  pub precedes : Precedes (accesses p m) (accesses p n)

-- the first node is the smaller one
pub record WriteConflict (p : Program) (m n : ℕ) : Type 0 where
  pub in_order : m < n
  pub concurrent : ConcurrentNodes p m n
  pub clash : Clash (accesses p m) (accesses p n)

-- the write-conflict rule at a place
abbrev pub NoConflictAt : Program → Place → Type 0
NoConflictAt p (place.Pair m n) = ¬ WriteConflict p m n
NoConflictAt p other = Unit {0}

-- the rule of priority along flow at a place: it never rises
abbrev pub FlowAt : Program → Tables → Place → Type 0
FlowAt p q (place.Pair m n) = Instant p m n → priority q n ≤ priority q m
FlowAt p q other = Unit {0}

-- the rule of priority along protocol edges at a place: it falls strictly
abbrev pub ProtocolAt : Program → Tables → Place → Type 0
ProtocolAt p q (place.Pair m n) = ProtocolEdge p m n → priority q n < priority q m
ProtocolAt p q other = Unit {0}
