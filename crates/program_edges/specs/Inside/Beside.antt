-- Threads that are forked beside others.
use Rattle.std.specs.Prelude.{ℕ, ◌≡◌, ◌≢◌, Some, List, Contains}
use Rattle.sc_graph.specs.declared.program.Step.TheVariants as step
use Rattle.sc_graph.specs.Program.{Program, step_at}

-- thread t and another one are children of one fork
pub record IsBeside (p : Program) (t : ℕ) : Type 0 where
  pub fork : ℕ
  pub children : List ℕ
  pub join : ℕ
  pub forks : step_at p fork ≡ Some (step.Fork children join)
  pub child : Contains children t
  pub other : ℕ
  pub other_child : Contains children other
  pub differ : t ≢ other
