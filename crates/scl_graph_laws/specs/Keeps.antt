-- A program of nodes keeps the runs of an SCL program: they go alike, before the first tick and over every list of
-- ticks.
use Rattle.std.specs.Prelude.{ℕ, ◌≡◌, Some, List, map, length, slice_get}
use Rattle.sc_values.specs.Operator.{kind_of}
use Rattle.sc_graph.specs.declared.program.Variable.{Variable}
use Rattle.sc_graph.specs.declared.control.Control.{Control}
use Rattle.sc_graph.specs.Program.{Program}
use Rattle.sc_graph.specs.Machine.{machine as machine_of_nodes}
use Rattle.sc_graph.specs.Tick.{Inputs, AreAccepted, start as start_of_nodes, initial as initial_of_nodes}
use Rattle.scl.specs.Numbering.{Numbered}
use Rattle.scl.specs.Meaning.{State, doing, machine, initial, start}
use Rattle.scl_graph_laws.specs.Alike.{Both, RunsAlike}
use Rattle.scl_graph_laws.specs.Ticks.{after_ticks}
use Rattle.scl_graph_laws.specs.Standing.{standing, IsOfText}

-- the variables are equal, and each thread stands at the node of the statement at which it is
pub record Corresponds (p : Numbered) (s : State) (c : Control) : Type 0 where
  pub variables : c.variables ≡ s.variables
  pub statuses : c.statuses ≡ map standing s.threads
  -- there is one value a variable, of its kind, and one doing a thread, at a place of its text
  pub kinds : map kind_of s.variables ≡ map (λ x. x.kind) p.variables
  pub threads : length s.threads ≡ p.threads
  pub places : (t : ℕ) → IsOfText p.root t (doing s t)

-- a name is one variable's
abbrev pub HaveOwnNames : List Variable → Type 0
HaveOwnNames variables = (i j : ℕ) (a b : Variable) → slice_get variables i ≡ Some a → slice_get variables j ≡ Some b → a.name ≡ b.name → a ≡ b

pub record Keeps (p : Numbered) (q : Program) : Type 0 where
  -- before the first tick
  pub begins : Corresponds p (initial p) (initial_of_nodes q)
  -- as a tick starts
  pub starts : (inputs : Inputs) (s : State) (c : Control) → AreAccepted q inputs → Corresponds p s c
      → Corresponds p (start p inputs s) (start_of_nodes q inputs c)
  -- within a tick
  pub goes_on : RunsAlike (machine p) (machine_of_nodes q) (Corresponds p)
  -- over every list of ticks by accepted inputs
  pub over_ticks : (ticks : List (Inputs × List ℕ)) → ((i : ℕ) (inputs : Inputs) (run : List ℕ) → slice_get ticks i ≡ Some (inputs, run) → AreAccepted q inputs)
      → Both (Corresponds p) (after_ticks (machine p) (start p) ticks (initial p))
      (after_ticks (machine_of_nodes q) (start_of_nodes q) ticks (initial_of_nodes q))
