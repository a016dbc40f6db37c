-- Priority runs: each step is of an enabled thread of the greatest priority.
use Rattle.std.specs.Prelude.{ℕ, ◌≡◌, ◌<◌, ◌≤◌, Some, List, [], ◌∷◌, length}
use Rattle.sc_graph.specs.declared.control.Control.{Control}
use Rattle.sc_graph.specs.declared.tables.Tables.{Tables}
use Rattle.sc_graph.specs.Program.{Program}
use Rattle.sc_graph.specs.Control.{status_of, IsEnabled}
use Rattle.sc_graph.specs.Steps.{step}
use Rattle.sc_graph.specs.Tables.{priority, priority_of}

-- thread t is enabled, and no enabled thread has a greater priority
pub record Leads (p : Program) (q : Tables) (c : Control) (t : ℕ) : Type 0 where
  pub enabled : IsEnabled p c t
  pub greatest : (u : ℕ) → IsEnabled p c u → priority_of q (status_of c u) ≤ priority_of q (status_of c t)

-- a priority run, complete or not, from c to d
abbrev pub PriorityRun : Program → Tables → List ℕ → Control → Control → Type 0
PriorityRun p q [] c d = c ≡ d
PriorityRun p q (t ∷ run) c d = Leads p q c t × ((mid : Control) × (step p t c ≡ Some mid) × PriorityRun p q run mid d)

-- the tables have a priority for each node of the program, and all of them are the same
pub record HaveOnePriority (p : Program) (q : Tables) : Type 0 where
  pub places : length q.priorities ≡ length p.nodes
  pub same : (m n : ℕ) → m < length p.nodes → n < length p.nodes → priority q m ≡ priority q n
