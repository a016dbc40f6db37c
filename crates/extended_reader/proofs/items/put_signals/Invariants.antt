use Rattle.std.proofs.Common.{◌≡◌, ◌++◌, drop}
use Rattle.sc_text.specs.Flaws.{variable_names}
use Rattle.extended_reader.specs.Items.{signal_numbers}
use Rattle.extended_reader.proofs.items.put_signals.Given as goal

abbrev pub invariant-loop-item : goal.invariant-loop-item
invariant-loop-item l =
    l.made ++ signal_numbers (variable_names l.scope.variables.now) (drop l.item-index l.items)
    ≡ l.fn.made ++ signal_numbers (variable_names l.scope.variables.now) l.items
