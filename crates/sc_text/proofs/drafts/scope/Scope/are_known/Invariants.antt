use Rattle.std.proofs.Common.{◌≡◌, drop}
use Rattle.std.specs.List.{list_all}
use Rattle.sc_text.specs.Flaws.{variable_names, is_among, has_known_name}
use Rattle.sc_text.proofs.drafts.scope.Scope.are_known.Given as goal

abbrev pub invariant-loop-operation : goal.invariant-loop-operation
invariant-loop-operation l =
    list_all (has_known_name (is_among (variable_names l.self.variables.now))) (drop l.operation-index l.operations)
    ≡ list_all (has_known_name (is_among (variable_names l.self.variables.now))) l.operations
