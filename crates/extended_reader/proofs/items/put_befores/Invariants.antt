use Rattle.std.proofs.Common.{◌≡◌, ◌++◌, map, drop}
use Rattle.sc_text.specs.Flaws.{variable_names}
use Rattle.extended_reader.specs.declared.sorts.Sort.TheVariants as sort
use Rattle.extended_reader.specs.Items.{all_of, before_of}
use Rattle.extended_reader.proofs.items.put_befores.Given as goal

abbrev pub invariant-loop-item : goal.invariant-loop-item
invariant-loop-item l =
    l.made ++ map (before_of (variable_names l.scope.variables.now)) (all_of sort.Before (drop l.item-index l.items))
    ≡ l.fn.made ++ map (before_of (variable_names l.scope.variables.now)) (all_of sort.Before l.items)
