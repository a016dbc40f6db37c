-- Nodes that stand for others of their thread in the search for a write conflict.
use Rattle.std.specs.Prelude.{ℕ, ◌≡◌, ◌<◌, ◌⊎◌, List, [], ◌∷◌, ◌++◌, slice_index, Contains}
use Rattle.sc_values.specs.Access.{Clash}
use Rattle.sc_graph.specs.Program.{Program, owner_of}
use Rattle.sc_graph.specs.Threads.{ConcurrentNodes}
use Rattle.sc_graph.specs.Accesses.{accesses}

-- where two of these nodes clash, one of them clashes with each third
pub record AreAlike (p : Program) (nodes : List ℕ) : Type 0 where
  pub apart : (k m n : ℕ) → Contains nodes k → Contains nodes m → Contains nodes n
      → Clash (accesses p k) (accesses p n) →
      Clash (accesses p k) (accesses p m) ⊎ Clash (accesses p m) (accesses p n)

abbrev pub SameThread : Program → ℕ → ℕ → Type 0
SameThread p m n = owner_of p m ≡ owner_of p n

-- one of the nodes, of the same thread, does not clash with node n, or two of them, of the same thread, clash
pub data IsCovered (p : Program) (kept : List ℕ) (n : ℕ) : Type 0 where
  by_one : (b : ℕ) → Contains kept b → SameThread p b n → ¬ Clash (accesses p b) (accesses p n) → IsCovered p kept n
  by_two : (a b : ℕ) → Contains kept a → Contains kept b → SameThread p a n → SameThread p b n
      → Clash (accesses p a) (accesses p b) → IsCovered p kept n

-- node n was put to the kept ones, or is covered by them
pub data IsKept (p : Program) (old new : List ℕ) (n : ℕ) : Type 0 where
  added : new ≡ old ++ n ∷ [] → IsKept p old new n
  left_out : new ≡ old → IsCovered p old n → IsKept p old new n

-- two concurrent nodes clash, whichever is smaller
pub record Disagree (p : Program) (m n : ℕ) : Type 0 where
  pub concurrent : ConcurrentNodes p m n
  pub clash : Clash (accesses p m) (accesses p n)

-- one of the kept nodes disagrees with whatever node n does
pub record IsStoodFor (p : Program) (nodes kept : List ℕ) (n : ℕ) : Type 0 where
  pub each : (y : ℕ) → Contains nodes y → Disagree p n y → (z : ℕ) × Contains kept z × Disagree p z y

-- so for each node below an index, by nodes of the list alone
pub record StandFor (p : Program) (nodes kept : List ℕ) (bound : ℕ) : Type 0 where
  pub only : (n : ℕ) → Contains kept n → Contains nodes n
  pub each : (k : ℕ) → k < bound → IsStoodFor p nodes kept (slice_index nodes k)
