use Rattle.std.proofs.Common.{◌≡◌, drop}
use Rattle.tick_core.specs.Space.Sorting.{OwnRows, ready_row, sorted_all}
use Rattle.tick_core.proofs.sorting.sort_all.Given as goal

abbrev pub invariant-loop-thread : goal.invariant-loop-thread
invariant-loop-thread l = record {
  rest : sorted_all (ready_row l.program l.tables l.control l.claims) (drop l.thread-index l.threads) l.rows
      ≡ sorted_all (ready_row l.program l.tables l.control l.claims) l.threads l.initial.rows;
  own : OwnRows l.program l.tables l.rows;
}
