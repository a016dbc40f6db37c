use Rattle.std.proofs.Common.{◌≡◌, ◌++◌, take}
use Rattle.std.specs.List.{flat_map, AllByRecursion}
use Rattle.bytecode.specs.Nodes.{node_bytes}
use Rattle.bytecode.specs.Layout.{node_rows}
use Rattle.bytecode.specs.Fits.{SayableNode}
use Rattle.bytecode.proofs.writing.image.put_nodes.Given as goal

abbrev pub invariant-loop-n : goal.invariant-loop-n
invariant-loop-n l = record {
  written : l.out.items ≡ l.fn.out.items ++ flat_map node_bytes (node_rows (take l.n l.nodes) l.tables.priorities l.tables.weights l.tables.end_bits);
  fits : AllByRecursion (SayableNode 2) (node_rows (take l.n l.nodes) l.tables.priorities l.tables.weights l.tables.end_bits);
}
