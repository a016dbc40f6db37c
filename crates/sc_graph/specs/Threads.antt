-- The tree of threads, and which threads are concurrent.
use Rattle.std.specs.Prelude.{ℕ, zero, suc, ◌≡◌, ◌≢◌, Some, List, Contains}
use Rattle.sc_graph.specs.declared.program.Step.TheVariants as step
use Rattle.sc_graph.specs.Program.{Program, step_at, owner_of, parent_of}

-- node n is a fork of thread t
pub record IsFork (p : Program) (n t : ℕ) (children : List ℕ) (join : ℕ) : Type 0 where
  pub owned : owner_of p n ≡ Some t
  pub forks : step_at p n ≡ Some (step.Fork children join)

-- thread a is n generations above thread t
abbrev pub Descends : Program → ℕ → ℕ → ℕ → Type 0
Descends p zero t a = t ≡ a
Descends p (suc n) t a = (parent : ℕ) × (parent_of p t ≡ Some parent) × Descends p n parent a

-- thread t is thread a, or descends from it
pub record Below (p : Program) (t a : ℕ) : Type 0 where
  pub generations : ℕ
  pub descends : Descends p generations t a

-- threads t and u are, or descend from, two different children of one fork of thread a
pub record ForkedApart (p : Program) (t u a : ℕ) : Type 0 where
  pub fork : ℕ
  pub children : List ℕ
  pub join : ℕ
  pub is_fork : IsFork p fork a children join
  pub left : ℕ
  pub right : ℕ
  pub left_child : Contains children left
  pub right_child : Contains children right
  pub differ : left ≢ right
  pub t_below : Below p t left
  pub u_below : Below p u right

-- two threads are concurrent where some thread forks them apart
pub record AreConcurrent (p : Program) (t u : ℕ) : Type 0 where
  pub forking : ℕ
  pub apart : ForkedApart p t u forking

-- two nodes are concurrent where their threads are
pub record ConcurrentNodes (p : Program) (m n : ℕ) : Type 0 where
  pub first : ℕ
  pub second : ℕ
  pub first_owner : owner_of p m ≡ Some first
  pub second_owner : owner_of p n ≡ Some second
  pub concurrent : AreConcurrent p first second
