-- What the step of one node asks of the tables: the parts of the rules that are not about the entry
-- of that node alone.
use Rattle.std.specs.Prelude.{ℕ, ◌≡◌, ◌≤◌, ◌+◌, Some, List}
use Rattle.sc_graph.specs.declared.program.Step.TheVariants as step
use Rattle.sc_graph.specs.declared.tables.Tables.{Tables}
use Rattle.sc_graph.specs.Program.{Program, step_at, owner_of}
use Rattle.sc_graph.specs.Tables.{priority, weight, bound}
use Rattle.sc_graph.specs.Costs.{child_bounds}
use Rattle.sc_graph.specs.Protocol.{Instant}

-- the bounds cover node n, where it is a depth, and the join of node n, where it is a fork
pub record IsCovered (p : Program) (q : Tables) (n : ℕ) : Type 0 where
  pub depth : (t next : ℕ) → owner_of p n ≡ Some t → step_at p n ≡ Some (step.Depth next) → weight q n ≤ bound q t
  pub join : (t j : ℕ) (children : List ℕ) → owner_of p j ≡ Some t → step_at p n ≡ Some (step.Fork children j) →
      weight q j + child_bounds q children ≤ bound q t

-- priority never rises along the instantaneous edges from node m
pub record FlowsFrom (p : Program) (q : Tables) (m : ℕ) : Type 0 where
  pub each : (n : ℕ) → Instant p m n → priority q n ≤ priority q m
