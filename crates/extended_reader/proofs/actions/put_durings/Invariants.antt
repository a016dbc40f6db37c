use Rattle.std.proofs.Common.{◌≡◌, ◌++◌, drop}
use Rattle.sc_text.specs.Flaws.{variable_names}
use Rattle.extended_reader.specs.Resolved.{durings_of}
use Rattle.extended_reader.proofs.actions.put_durings.Given as goal

abbrev pub invariant-loop-entry : goal.invariant-loop-entry
invariant-loop-entry l =
    l.made ++ durings_of (variable_names l.scope.variables.now) (drop l.entry-index l.entries)
    ≡ l.fn.made ++ durings_of (variable_names l.scope.variables.now) l.entries
