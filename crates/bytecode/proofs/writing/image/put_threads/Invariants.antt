use Rattle.std.proofs.Common.{◌≡◌, ◌++◌, take}
use Rattle.std.specs.List.{flat_map, AllByRecursion}
use Rattle.bytecode.specs.Nodes.{thread_bytes}
use Rattle.bytecode.specs.Layout.{thread_rows}
use Rattle.bytecode.specs.Fits.{SayableThread}
use Rattle.bytecode.proofs.writing.image.put_threads.Given as goal

abbrev pub invariant-loop-t : goal.invariant-loop-t
invariant-loop-t l = record {
  written : l.out.items ≡ l.fn.out.items ++ flat_map thread_bytes (thread_rows (take l.t l.threads) l.tables.bounds);
  fits : AllByRecursion SayableThread (thread_rows (take l.t l.threads) l.tables.bounds);
}
