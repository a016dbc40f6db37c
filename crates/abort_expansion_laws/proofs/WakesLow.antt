-- How a thread wakes that makes checks of flags first: by those it comes below the priority of what raises the last one.
use Rattle.std.proofs.Common.{◌≡◌, ℕ, ◌<◌, Some, List, []}
use Rattle.sc_graph.specs.declared.tables.Tables.{Tables}
use Rattle.sc_graph.specs.declared.control.Control.{Control}
use Rattle.sc_graph.specs.Program.{Program, owner_of}
use Rattle.sc_graph.specs.Accesses.{accesses}
use Rattle.sc_graph.specs.Control.{status_of}
use Rattle.sc_graph.specs.Tables.{priority}
use Rattle.core_charts.specs.declared.region.Transition.{Transition}
use Rattle.chart_machine.specs.declared.standing.Standing.{Standing}
use Rattle.chart_machine.specs.declared.standing.Standing.TheVariants as at
use Rattle.chart_machine.specs.Steps.{access_of_trigger}
use Rattle.abort_expansion.specs.Transitions.{is_raised}
use Rattle.abort_expansion_laws.proofs.ChecksUpTo.{ChecksUpTo}
use Rattle.abort_expansion_laws.proofs.StrongTestsQuiet.{Excused}

-- a thread, where its region stands: before tests, or in a superstate whose fork is over
pub data WakesLow (p : Program) (q : Tables) (m : Control) (t : ℕ) (y : Standing) : Type 0 where
  wakes_tests : (u : ℕ) (tests : List Transition) → y ≡ at.Trying u tests →
      ((x place many top : ℕ) → ChecksUpTo x place many tests →
      ((n : ℕ) → owner_of p n ≡ Some t → accesses p n ≡ access_of_trigger (Some (is_raised x)) → priority q n < top) →
      Excused p q top many (status_of m t)) →
      WakesLow p q m t y
  wakes_fork : (u : ℕ) → y ≡ at.Within u [] → WakesLow p q m t y
