use Rattle.std.proofs.Common.{◌≡◌, ◌<◌, ◌^◌, ◌++◌, take}
use Rattle.std.specs.List.{flat_map, AllByRecursion}
use Rattle.bytecode.specs.Fields.{u16_bytes}
use Rattle.bytecode.proofs.writing.nodes.put_children.Given as goal

abbrev pub invariant-loop-child : goal.invariant-loop-child
invariant-loop-child l = record {
  written : l.out.items ≡ l.fn.out.items ++ flat_map u16_bytes (take l.child-index l.children);
  fits : AllByRecursion (λ t. t < 2 ^ 16) (take l.child-index l.children);
}
