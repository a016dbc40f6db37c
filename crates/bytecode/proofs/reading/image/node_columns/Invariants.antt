use Rattle.std.proofs.Common.{◌≡◌, ◌-◌}
use Rattle.bytecode.specs.Layout.{node_rows}
use Rattle.bytecode.specs.Inside.Columns.{AreNodes}
use Rattle.bytecode.specs.Reading.{each_at}
use Rattle.bytecode.specs.Reading.Nodes.{node_at}
use Rattle.bytecode.proofs.Loop.{with_front}
use Rattle.bytecode.proofs.reading.image.node_columns.Given as goal

abbrev pub invariant-loop : goal.invariant-loop
invariant-loop l = record {
  lengths : AreNodes l.columns.nodes l.columns.priorities l.columns.weights l.columns.end_bits l.counter;
  read : with_front (node_rows l.columns.nodes l.columns.priorities l.columns.weights l.columns.end_bits)
      (each_at (node_at l.version) (l.count - l.counter) l.rest) ≡ each_at (node_at l.version) l.count l.bytes;
}
