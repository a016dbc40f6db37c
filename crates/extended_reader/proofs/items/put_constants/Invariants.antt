use Rattle.std.proofs.Common.{◌≡◌, ◌++◌, map, drop}
use Rattle.extended_reader.specs.declared.sorts.Sort.TheVariants as sort
use Rattle.extended_reader.specs.Items.{all_of, constant_of}
use Rattle.extended_reader.proofs.items.put_constants.Given as goal

abbrev pub invariant-loop-item : goal.invariant-loop-item
invariant-loop-item l =
    l.made ++ map constant_of (all_of sort.Constant (drop l.item-index l.items)) ≡ l.fn.made ++ map constant_of (all_of sort.Constant l.items)
