use Rattle.std.proofs.Common.{ℕ, ◌<◌}
use Rattle.sc_graph.specs.Control.{status_of}
use Rattle.sc_graph.specs.Inside.Fits.{RestsAt}
use Rattle.sc_graph.proofs.resting.rest_in_place.Given as goal

abbrev pub invariant-loop-thread : goal.invariant-loop-thread
invariant-loop-thread l = (t : ℕ) → t < l.thread → RestsAt l.program t (status_of l.control t)
