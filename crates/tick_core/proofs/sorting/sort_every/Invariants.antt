use Rattle.std.proofs.Common.{◌≡◌, ◌<◌, ℕ, Some, slice_get}
use Rattle.tick_core.specs.Space.Sorting.{OwnRows, ready_row}
use Rattle.tick_core.proofs.sorting.sort_every.Given as goal

abbrev pub invariant-loop-thread : goal.invariant-loop-thread
invariant-loop-thread l = record {
  own : OwnRows l.program l.tables l.rows;
  each : (t : ℕ) → t < l.thread → slice_get l.rows.classes t ≡ Some (ready_row l.program l.tables l.control l.claims t);
}
