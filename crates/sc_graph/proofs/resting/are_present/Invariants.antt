use Rattle.std.proofs.Common.{◌≡◌, ◌↔◌, ℕ, ◌<◌, IsTrue, Some, slice_get}
use Rattle.sc_graph.specs.Control.{status_of}
use Rattle.sc_graph.specs.Tick.{IsPresent}
use Rattle.sc_graph.proofs.resting.are_present.Given as goal

abbrev pub invariant-loop-child : goal.invariant-loop-child
invariant-loop-child l =
    (i k : ℕ) → i < l.child-index → slice_get l.children i ≡ Some k → (IsPresent (status_of l.control k)) ↔ IsTrue l.wanted
