use Rattle.std.proofs.Common.{◌≡◌, ◌++◌, map, drop}
use Rattle.extended_reader.specs.declared.sorts.Sort.TheVariants as sort
use Rattle.extended_reader.specs.Items.{all_of, declared_of}
use Rattle.extended_reader.proofs.items.put_variables.Given as goal

abbrev pub invariant-loop-item : goal.invariant-loop-item
invariant-loop-item l =
    l.made ++ map declared_of (all_of sort.Variable (drop l.item-index l.items)) ≡ l.fn.made ++ map declared_of (all_of sort.Variable l.items)
