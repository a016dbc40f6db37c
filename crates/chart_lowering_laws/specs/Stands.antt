-- What may be taken of the lowering of a core chart, given how its configurations and those of its graph are related.
use Rattle.std.specs.Prelude.{ℕ, ◌≡◌, ◌≢◌, ◌⊎◌, true, Some, List, ◌∷◌, Contains}
use Rattle.sc_values.specs.Access.{Access, Nothing}
use Rattle.sc_values.specs.Runs.{replay}
use Rattle.sc_graph.specs.declared.control.Control.{Control}
use Rattle.sc_graph.specs.declared.control.Status.TheVariants as status
use Rattle.sc_graph.specs.declared.program.Step.TheVariants as steps
use Rattle.sc_graph.specs.Program.{Program, parent_of, owner_of, step_at}
use Rattle.sc_graph.specs.Threads as threads
use Rattle.sc_graph.specs.Accesses.{accesses}
use Rattle.sc_graph.specs.Control.{status_of}
use Rattle.sc_graph.specs.Machine as programs
use Rattle.sc_graph.specs.Tick.{IsConfiguration}
use Rattle.core_charts.specs.declared.region.Transition.{Transition}
use Rattle.chart_machine.specs.declared.standing.Standing.TheVariants as at
use Rattle.chart_machine.specs.declared.standing.Configuration.{Configuration}
use Rattle.chart_machine.specs.declared.table.Table.{Table}
use Rattle.chart_machine.specs.Table.{state_at, region_at}
use Rattle.chart_machine.specs.Turns.{ForkedApart, standing_of, is_enabled}
use Rattle.chart_machine.specs.Steps.{step, access_of}

-- after a step of the core chart: the steps of the program that follow it
pub record Followed (core : Table) (p : Program) (Stands : Configuration → Control → Type 0) (next : Configuration) (m : Control) (t : ℕ) : Type 0 where
  pub run : List ℕ
  pub last : Control
  pub leads : replay (programs.machine p) run m ≡ Some last
  pub stands : Stands next last
  -- besides t itself nobody steps who waits at a join
  pub by : (u : ℕ) → Contains run u → (u ≡ t) ⊎ ((j : ℕ) → status_of m u ≢ status.Waiting j)
  -- and where t itself waits at one, it steps
  pub leaves : (j : ℕ) → status_of m t ≡ status.Waiting j → Contains run t

-- the node of what a region is about to do: its thread stands there, or at a resume node that leads there
pub record AtNode (p : Program) (m : Control) (t : ℕ) (a : Access) : Type 0 where
  pub node : ℕ
  pub owned : owner_of p node ≡ Some t
  pub does : accesses p node ≡ a
  pub at : (status_of m t ≡ status.At node) ⊎ ((depth : ℕ) × (status_of m t ≡ status.At depth) × (step_at p depth ≡ Some (steps.Depth node)))

-- region t of the core chart is thread t of its program, where Stands relates what is under way
pub record Lowered (core : Table) (p : Program) (Stands : Configuration → Control → Type 0) : Type 0 where
  pub configuration : (d : Configuration) (m : Control) → Stands d m → IsConfiguration p m
  pub follow : (d next : Configuration) (m : Control) (t : ℕ) → Stands d m → step core t d ≡ Some next → Followed core p Stands next m t
  -- of a superstate: the join of its fork
  pub join_of : ℕ → ℕ
  pub waits_back : (d : Configuration) (m : Control) (t s : ℕ) → Stands d m → status_of m t ≡ status.Waiting (join_of s) →
      (tests : List Transition) × (standing_of d t ≡ at.Within s tests)
  -- where what it does writes a variable
  pub node : (d : Configuration) (m : Control) (t : ℕ) → Stands d m → is_enabled core d t ≡ true → (access_of (standing_of d t)).writes ≢ Nothing →
      AtNode p m t (access_of (standing_of d t))
  pub apart : (t u a : ℕ) → ForkedApart core t u a → threads.ForkedApart p t u a
  pub parent : (t s : ℕ) (ss : List ℕ) → (region_at core t).around ≡ s ∷ ss → parent_of p t ≡ Some (state_at core s).holder
