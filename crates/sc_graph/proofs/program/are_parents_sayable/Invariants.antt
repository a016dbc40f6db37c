use Rattle.std.proofs.Common.{ℕ, ◌≡◌, ◌≢◌, ◌<◌, Some, slice_get}
use Rattle.sc_graph.specs.declared.program.Thread.{Thread}
use Rattle.sc_graph.specs.Limits.{no_parent}
use Rattle.sc_graph.proofs.program.are_parents_sayable.Given as goal

abbrev pub invariant-loop-thread : goal.invariant-loop-thread
invariant-loop-thread l = (t : ℕ) (x : Thread) → t < l.thread-index → slice_get l.threads t ≡ Some x → x.parent ≢ Some no_parent
