use Rattle.std.proofs.Common.{◌≡◌, ◌++◌, drop}
use Rattle.extended_reader.specs.Items.{all_of, declarations}
use Rattle.extended_reader.proofs.sorts.put_declared.Given as goal

abbrev pub invariant-loop-item : goal.invariant-loop-item
invariant-loop-item l =
    l.found ++ declarations (all_of l.sort (drop l.item-index l.items)) ≡ l.fn.found ++ declarations (all_of l.sort l.items)
