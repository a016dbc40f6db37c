use Rattle.std.proofs.Common.{◌≡◌, ◌-◌}
use Rattle.bytecode.specs.Layout.{thread_rows}
use Rattle.bytecode.specs.Inside.Columns.{AreThreads}
use Rattle.bytecode.specs.Reading.{each_at}
use Rattle.bytecode.specs.Reading.Nodes.{thread_at}
use Rattle.bytecode.proofs.Loop.{with_front}
use Rattle.bytecode.proofs.reading.image.thread_columns.Given as goal

abbrev pub invariant-loop : goal.invariant-loop
invariant-loop l = record {
  lengths : AreThreads l.columns.threads l.columns.bounds l.counter;
  read : with_front (thread_rows l.columns.threads l.columns.bounds) (each_at thread_at (l.count - l.counter) l.rest) ≡ each_at thread_at l.count l.bytes;
}
