-- Nodes to which edges lead from one node: of what they ask of it, and of which has a rank.
use Rattle.std.specs.Prelude.{ℕ, ◌≡◌, ◌<◌, ◌≤◌, ◌+◌, ◌⊎◌, Bool, true, Option, Some, None, if◌then◌else◌, List, Contains, slice_index}
use Rattle.sc_graph.specs.declared.program.Step.{Step}
use Rattle.sc_graph.specs.declared.program.Step.TheVariants as step
use Rattle.sc_graph.specs.Program.{Program, step_at}
use Rattle.sc_graph.specs.Protocol.{successors}
use Rattle.priority_weights.specs.Inside.Entries.{bits, entry_bits}

-- x is the greatest number that edges of weight w to these nodes ask for, and 0 where there is none
pub record IsAsked (Nodes : ℕ → Type 0) (table : List ℕ) (w x : ℕ) : Type 0 where
  pub covers : (n : ℕ) → Nodes n → w + slice_index table n ≤ x
  pub attained : (x ≡ 0) ⊎ ((n : ℕ) × Nodes n × (x ≡ w + slice_index table n))

-- x is 0, or what an edge of weight w to one of these nodes asks for
abbrev pub IsSomeAsked : (ℕ → Type 0) → List ℕ → ℕ → ℕ → Type 0
IsSomeAsked Nodes table w x = (x ≡ 0) ⊎ ((n : ℕ) × Nodes n × (x ≡ w + slice_index table n))

-- the node has a rank above 0 and below a number
pub record IsRanked (ranks : List ℕ) (below n : ℕ) : Type 0 where
  pub ranked : 0 < slice_index ranks n
  pub falls : slice_index ranks n < below

-- the join of a fork whose children may all end at once
abbrev pub join_at_once : Program → (ℕ → Bool) → Step → Option ℕ
join_at_once p e (step.Fork children join) = if entry_bits p e children then Some join else None
join_at_once p e other = None

-- where a thread goes on within one tick, by a table of end bits
pub data GoesOnBy (p : Program) (q : ℕ → ℕ) (m n : ℕ) : Type 0 where
  successor : (s : Step) → step_at p m ≡ Some s → Contains (successors s) n → GoesOnBy p q m n
  over : (children : List ℕ) → step_at p m ≡ Some (step.Fork children n) → entry_bits p (bits q) children ≡ true
      → GoesOnBy p q m n

abbrev pub LeadsOn : Program → (ℕ → ℕ) → ℕ → ℕ → ℕ → Type 0
LeadsOn p q m n w = GoesOnBy p q m n × (w ≡ 1)
