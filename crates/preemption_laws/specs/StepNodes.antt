-- Where the steps of a core chart are in its graph, and that priorities there order concurrent ones.
use Rattle.std.specs.Prelude.{ℕ, ◌≡◌, ◌≢◌, ◌≤◌, true, Some, List}
use Rattle.sc_values.specs.Access.{Access, no_access, MayPrecede}
use Rattle.sc_values.specs.Runs.{replay}
use Rattle.sc_graph.specs.declared.control.Control.{Control}
use Rattle.sc_graph.specs.declared.control.Status.TheVariants as status
use Rattle.sc_graph.specs.declared.tables.Tables.{Tables}
use Rattle.sc_graph.specs.Accesses.{accesses}
use Rattle.sc_graph.specs.Control.{status_of}
use Rattle.sc_graph.specs.Machine.{machine}
use Rattle.sc_graph.specs.Program.{Program, owner_of}
use Rattle.sc_graph.specs.Tables.{priority_of}
use Rattle.sc_graph.specs.Valid.{IsValid}
use Rattle.core_charts.specs.Chart.{Chart}
use Rattle.chart_machine.specs.declared.standing.Configuration.{Configuration}
use Rattle.chart_machine.specs.Table.{table}
use Rattle.chart_machine.specs.Turns.{standing_of, is_enabled, ForkedApart}
use Rattle.chart_machine.specs.Steps.{access_of}
use Rattle.scl.specs.declared.program.Scl.{Scl}
use Rattle.scl.specs.Numbering.{numbered}
use Rattle.scl_graph.specs.Graph.{program_of}
use Rattle.chart_lowering_laws.specs.Laws.{IsLowering}
use Rattle.chart_lowering_laws.specs.Marks.{layout}
use Rattle.compiled_charts_laws.specs.Stands.{StandAlike}

-- a thread stands at a node of its own that does this
pub record AtOwnNode (g : Program) (m : Control) (t : ℕ) (a : Access) : Type 0 where
  pub node : ℕ
  pub owned : owner_of g node ≡ Some t
  pub does : accesses g node ≡ a
  pub at : status_of m t ≡ status.At node

-- the thread of each region whose turn it is stands at the node of its step, where that reads or writes
abbrev pub AtTheirNodes : Chart → Program → Configuration → Control → Type 0
AtTheirNodes c g d m =
    (t : ℕ) → is_enabled (table c) d t ≡ true → access_of (standing_of d t) ≢ no_access → AtOwnNode g m t (access_of (standing_of d t))

abbrev pub Alike : Chart → Scl → Configuration → Control → Type 0
Alike c p d m = StandAlike (table c) (numbered p) (layout c (numbered p).root) (program_of (numbered p)) d m

-- a run of threads alone comes there
pub record ComesToNodes (c : Chart) (p : Scl) (d : Configuration) (m : Control) : Type 0 where
  pub run : List ℕ
  pub last : Control
  pub leads : replay (machine (program_of (numbered p))) run m ≡ Some last
  pub stands : Alike c p d last
  pub nodes : AtTheirNodes c (program_of (numbered p)) d last

-- wherever a core chart and its graph stand alike
abbrev pub StepsComeToNodes : Type 0
StepsComeToNodes =
    (c : Chart) (p : Scl) (q : Tables) → IsLowering c p → IsValid (program_of (numbered p)) q → (d : Configuration) (m : Control) → Alike c p d m →
    ComesToNodes c p d m

-- of two concurrent steps the one of no smaller priority may come first
abbrev pub PrioritiesOrderSteps : Type 0
PrioritiesOrderSteps =
    (c : Chart) (p : Scl) (q : Tables) → IsLowering c p → IsValid (program_of (numbered p)) q → (d e : Configuration) (m n : Control) →
    AtTheirNodes c (program_of (numbered p)) d m → AtTheirNodes c (program_of (numbered p)) e n → (t u a : ℕ) → is_enabled (table c) d t ≡ true →
    is_enabled (table c) e u ≡ true → ForkedApart (table c) t u a → priority_of q (status_of n u) ≤ priority_of q (status_of m t) →
    MayPrecede (access_of (standing_of d t)) (access_of (standing_of e u))
