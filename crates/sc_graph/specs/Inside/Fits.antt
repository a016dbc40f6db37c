-- The parts of what makes a configuration rest, each over one list.
use Rattle.std.specs.Prelude.{ℕ, ◌≡◌, ◌↔◌, true, Some, List, length, slice_get, Contains}
use Rattle.sc_values.specs.declared.value.Value.{Value}
use Rattle.sc_values.specs.Operator.{kind_of}
use Rattle.sc_graph.specs.declared.program.Node.{Node}
use Rattle.sc_graph.specs.declared.program.Step.TheVariants as step
use Rattle.sc_graph.specs.declared.control.Control.{Control}
use Rattle.sc_graph.specs.declared.control.Status.{Status}
use Rattle.sc_graph.specs.declared.control.Status.TheVariants as status
use Rattle.sc_graph.specs.Program.{Program, kind_at, is_join, is_depth}
use Rattle.sc_graph.specs.Control.{status_of}
use Rattle.sc_graph.specs.Tick.{IsPresent}

-- one value a variable, of its kind
pub record HaveKinds (p : Program) (values : List Value) : Type 0 where
  pub long : length values ≡ length p.variables
  pub kinds : (x : ℕ) (v : Value) → slice_get values x ≡ Some v → kind_at p x ≡ Some (kind_of v)

-- where thread t may stand between two ticks
abbrev pub RestsAt : Program → ℕ → Status → Type 0
RestsAt p t (status.At n) = ⊥
RestsAt p t (status.Waiting j) = is_join p t j ≡ true
RestsAt p t (status.Paused d) = is_depth p t d ≡ true
RestsAt p t other = Unit {0}

-- one status a thread, each at a place to rest
pub record RestInPlace (p : Program) (c : Control) : Type 0 where
  pub long : length c.statuses ≡ length p.threads
  pub each : (t : ℕ) → RestsAt p t (status_of c t)

-- at a fork, each child is present exactly where the parent waits at the join
pub record ChildrenStand (c : Control) (x : Node) : Type 0 where
  pub each : (children : List ℕ) (j k : ℕ) → x.step ≡ step.Fork children j → Contains children k →
      (IsPresent (status_of c k)) ↔ (status_of c x.owner ≡ status.Waiting j)

-- so at each fork
pub record AllChildrenStand (p : Program) (c : Control) : Type 0 where
  pub each : (n : ℕ) (x : Node) → slice_get p.nodes n ≡ Some x → ChildrenStand c x
