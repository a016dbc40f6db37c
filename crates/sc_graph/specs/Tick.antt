-- Resting configurations, and the start of a tick.
use Rattle.std.specs.Prelude.{ℕ, zero, ◌≡◌, ◌≢◌, ◌↔◌, ◌<◌, true, false, Option, Some, None, List, [], ◌∷◌, map, length, slice_get, unwrap_or, Contains}
use Rattle.std.specs.Prelude.{if◌then◌else◌}
use Rattle.std.specs.Str.{bytes_eq}
use Rattle.sc_values.specs.declared.value.Value.{Value}
use Rattle.sc_values.specs.Operator.{kind_of, initial_value}
use Rattle.sc_graph.specs.declared.program.Variable.{Variable}
use Rattle.sc_graph.specs.declared.program.Role.{Role}
use Rattle.sc_graph.specs.declared.program.Role.TheVariants as role
use Rattle.sc_graph.specs.declared.control.Control.{Control}
use Rattle.sc_graph.specs.declared.control.Status.{Status}
use Rattle.sc_graph.specs.declared.control.Status.TheVariants as status
use Rattle.sc_graph.specs.Program.{Program, kind_at, entry_of, is_join, is_depth, is_join_step, step_at, owner_of}
use Rattle.sc_graph.specs.Threads.{IsFork}
use Rattle.sc_graph.specs.Control.{status_of}

-- where thread t may stand: at a node of its own that is no join, waiting at a join or paused at a depth of
-- its own, absent or ended
abbrev pub IsPlace : Program → ℕ → Status → Type 0
IsPlace p t (status.At n) = (owner_of p n ≡ Some t) × (is_join_step (step_at p n) ≡ false)
IsPlace p t (status.Waiting j) = is_join p t j ≡ true
IsPlace p t (status.Paused d) = is_depth p t d ≡ true
IsPlace p t other = Unit {0}

abbrev pub IsPresent : Status → Type 0
IsPresent status.Absent = ⊥
IsPresent other = Unit {0}

-- one value a variable, of its kind, and one status a thread, each at a place of its own; a child is
-- present exactly where its parent waits at the join of its fork
pub record IsConfiguration (p : Program) (c : Control) : Type 0 where
  pub values : length c.variables ≡ length p.variables
  pub kinds : (x : ℕ) (v : Value) → slice_get c.variables x ≡ Some v → kind_at p x ≡ Some (kind_of v)
  pub threads : length c.statuses ≡ length p.threads
  pub places : (t : ℕ) → IsPlace p t (status_of c t)
  pub present : (n t : ℕ) (children : List ℕ) (j k : ℕ) → IsFork p n t children j → Contains children k →
      (IsPresent (status_of c k)) ↔ (status_of c t ≡ status.Waiting j)

-- a configuration between two ticks: nobody is at a node
pub record Rests (p : Program) (c : Control) : Type 0 where
  pub configuration : IsConfiguration p c
  pub nobody_at : (t n : ℕ) → status_of c t ≢ status.At n

-- an input of a tick: a name, as its bytes, and the value for it
abbrev pub Inputs : Type 0
Inputs = List (List ℕ × Value)

abbrev pub given : Inputs → List ℕ → Option Value
given [] name = None
given (i ∷ inputs) name = if bytes_eq i.0 name then Some i.1 else given inputs name

-- each input names an input variable and has its kind, and no name comes twice
pub record AreAccepted (p : Program) (inputs : Inputs) : Type 0 where
  pub named : (i : ℕ) (name : List ℕ) (v : Value) → slice_get inputs i ≡ Some (name, v) →
      (x : ℕ) × (a : Variable) × (slice_get p.variables x ≡ Some a) × (a.name ≡ name) × (a.role ≡ role.Input)
      × (a.kind ≡ kind_of v)
  pub once : (i j : ℕ) (a b : List ℕ × Value) → i < j → slice_get inputs i ≡ Some a → slice_get inputs j ≡ Some b
      → a.0 ≢ b.0

-- the value of a variable as a tick starts: of an input the given one, or `false` or 0
abbrev pub value_at_start : Inputs → Variable → Role → Value → Value
value_at_start inputs x role.Input present = unwrap_or (given inputs x.name) (initial_value x.kind)
value_at_start inputs x other present = present

abbrev pub values_at_start : Inputs → List Variable → List Value → List Value
values_at_start inputs [] values = []
values_at_start inputs (x ∷ variables) [] = []
values_at_start inputs (x ∷ variables) (v ∷ values) =
    value_at_start inputs x x.role v ∷ values_at_start inputs variables values

-- a paused thread comes to stand at its depth
abbrev pub woken : Status → Status
woken (status.Paused d) = status.At d
woken other = other

-- the root, where it is still absent, comes to stand at its entry
abbrev pub root_started : Option ℕ → Status → Status
root_started (Some entry) status.Absent = status.At entry
root_started entry other = woken other

abbrev pub statuses_at_start : Program → List Status → List Status
statuses_at_start p [] = []
statuses_at_start p (root ∷ others) = root_started (entry_of p zero) root ∷ map woken others

-- the start of a tick from a resting configuration
abbrev pub start : Program → Inputs → Control → Control
start p inputs c =
    record {
      variables = values_at_start inputs p.variables c.variables;
      statuses = statuses_at_start p c.statuses;
    }

-- what stands before the first tick: all variables `false` or 0, all threads absent
abbrev pub initial : Program → Control
initial p =
    record {
      variables = map (λ x. initial_value x.kind) p.variables;
      statuses = map (λ _. status.Absent) p.threads;
    }
