-- Which threads lead, as far as a search has come.
use Rattle.std.specs.Prelude.{ℕ, ◌≡◌, ◌<◌, ◌≤◌, false, Option, Some, None}
use Rattle.sc_graph.specs.declared.control.Control.{Control}
use Rattle.sc_graph.specs.declared.tables.Tables.{Tables}
use Rattle.sc_graph.specs.Program.{Program}
use Rattle.sc_graph.specs.Control.{status_of, is_enabled, IsEnabled}
use Rattle.sc_graph.specs.Tables.{priority_of}

-- of the threads below n, t is enabled and none that is has a greater priority
pub record LeadsBelow (p : Program) (q : Tables) (c : Control) (n t : ℕ) : Type 0 where
  pub enabled : IsEnabled p c t
  pub greatest : (u : ℕ) → u < n → IsEnabled p c u → priority_of q (status_of c u) ≤ priority_of q (status_of c t)

-- no thread below n is enabled
pub record NobodyBelow (p : Program) (c : Control) (n : ℕ) : Type 0 where
  pub each : (u : ℕ) → u < n → is_enabled p c u ≡ false

abbrev pub BestBelow : Program → Tables → Control → ℕ → Option ℕ → Type 0
BestBelow p q c n None = NobodyBelow p c n
BestBelow p q c n (Some t) = LeadsBelow p q c n t
