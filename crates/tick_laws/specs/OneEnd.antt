-- The law of one end: from the start of a tick of a valid image all admissible complete runs are
-- reorderings of one another and lead to one configuration, and priority finds one of them.
use Rattle.std.specs.Prelude.{ℕ, ◌≡◌, ◌≤◌, Some, List, length, IsPermutation}
use Rattle.sc_values.specs.Runs.{replay, IsOver, IsAdmissible, Completes, Ends}
use Rattle.sc_graph.specs.declared.control.Control.{Control}
use Rattle.sc_graph.specs.declared.tables.Tables.{Tables}
use Rattle.sc_graph.specs.Program.{Program}
use Rattle.sc_graph.specs.Control.{IsEnabled}
use Rattle.sc_graph.specs.Steps.{step}
use Rattle.sc_graph.specs.Machine.{machine}
use Rattle.sc_graph.specs.Priority.{PriorityRun}
use Rattle.sc_graph.specs.Tick.{IsConfiguration, Rests, Inputs, AreAccepted, start}
use Rattle.sc_graph.specs.Valid.{IsValid}

-- from c a complete priority run leads to a resting configuration
pub record HasEnd (p : Program) (q : Tables) (c : Control) : Type 0 where
  pub run : List ℕ
  pub end : Control
  pub by_priority : PriorityRun p q run c end
  pub complete : Completes (machine p) run c end
  pub rests : Rests p end

-- what holds of a priority run from c to d. It is admissible, complete or not. A complete one leads to the
-- only end of c, and every admissible complete run is a reordering of it
pub record OfPriority (p : Program) (q : Tables) (c : Control) (run : List ℕ) (d : Control) : Type 0 where
  pub runs : replay (machine p) run c ≡ Some d
  pub admissible : IsAdmissible (machine p) run c
  pub ends : IsOver (machine p) d → Ends (machine p) c d
  pub one_end : IsOver (machine p) d → (other : Control) → Ends (machine p) c other → other ≡ d
  pub reordered : IsOver (machine p) d → (other : List ℕ) (end : Control) → Completes (machine p) other c end → IsAdmissible (machine p) other c
      → IsPermutation other run

-- what holds of each run that leads to d, admissible or not: it is within the budget, each enabled thread has
-- a step, and a priority run completes it
pub record OfEach (p : Program) (q : Tables) (run : List ℕ) (d : Control) : Type 0 where
  pub configuration : IsConfiguration p d
  pub bounded : length run ≤ q.budget
  pub defined : (t : ℕ) → IsEnabled p d t → (e : Control) × (step p t d ≡ Some e)
  pub goes_on : HasEnd p q d

pub record OneEnd (p : Program) (q : Tables) (c : Control) : Type 0 where
  pub exists : HasEnd p q c
  pub of_priority : (run : List ℕ) (d : Control) → PriorityRun p q run c d → OfPriority p q c run d
  pub of_each : (run : List ℕ) (d : Control) → replay (machine p) run c ≡ Some d → OfEach p q run d

-- the law: it holds of the start of each tick
abbrev pub OneEndOfTick : Type 0
OneEndOfTick =
    (p : Program) (q : Tables) (c : Control) (inputs : Inputs) → IsValid p q → Rests p c → AreAccepted p inputs → OneEnd p q (start p inputs c)
