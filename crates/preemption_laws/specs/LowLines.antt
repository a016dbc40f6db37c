-- Priorities on the line of a thread: its own, and those of the threads below and above it.
use Rattle.std.specs.Prelude.{ℕ, ◌≡◌, ◌≤◌, ◌⊎◌, Some, List}
use Rattle.sc_values.specs.Runs.{replay}
use Rattle.sc_graph.specs.declared.control.Control.{Control}
use Rattle.sc_graph.specs.declared.control.Status.{Status}
use Rattle.sc_graph.specs.declared.control.Status.TheVariants as status
use Rattle.sc_graph.specs.declared.tables.Tables.{Tables}
use Rattle.sc_graph.specs.Program.{Program}
use Rattle.sc_graph.specs.Threads.{Below}
use Rattle.sc_graph.specs.Control.{status_of, IsEnabled}
use Rattle.sc_graph.specs.Machine.{machine}
use Rattle.sc_graph.specs.Tables.{priority_of}
use Rattle.sc_graph.specs.Tick.{IsConfiguration}
use Rattle.sc_graph.specs.Valid.{IsValid}

-- at a node, at a join or at rest
abbrev pub IsGoing : Status → Type 0
IsGoing (status.At n) = Unit {0}
IsGoing (status.Waiting j) = Unit {0}
IsGoing (status.Paused d) = Unit {0}
IsGoing other = ⊥

-- thread a and those below it stand at this priority or lower, where they are enabled
abbrev pub LowBelow : Program → Tables → ℕ → ℕ → Control → Type 0
LowBelow p q top a c = (u : ℕ) → Below p u a → IsEnabled p c u → priority_of q (status_of c u) ≤ top

-- and so do those above it
abbrev pub LowLine : Program → Tables → ℕ → ℕ → Control → Type 0
LowLine p q top a c = (u : ℕ) → Below p u a ⊎ Below p a u → IsEnabled p c u → priority_of q (status_of c u) ≤ top

-- whatever steps, in whatever order: all that a thread and those below it will do, and all joins above them, are no higher than they are now
abbrev pub LinesStayLow : Type 0
LinesStayLow =
    (p : Program) (q : Tables) → IsValid p q → (run : List ℕ) (c d : Control) → IsConfiguration p c → replay (machine p) run c ≡ Some d →
    (a top : ℕ) → IsGoing (status_of c a) → LowBelow p q top a c → LowLine p q top a d
