use Rattle.std.proofs.Common.{◌≡◌, ◌++◌, drop}
use Rattle.sc_text.specs.Flaws.{variable_names}
use Rattle.extended_reader.specs.Counts.{conditions}
use Rattle.extended_reader.proofs.counts.put_conditions.Given as goal

abbrev pub invariant-loop-way : goal.invariant-loop-way
invariant-loop-way l =
    l.made ++ conditions (variable_names l.scope.variables.now) (drop l.way-index l.ways)
    ≡ l.fn.made ++ conditions (variable_names l.scope.variables.now) l.ways
