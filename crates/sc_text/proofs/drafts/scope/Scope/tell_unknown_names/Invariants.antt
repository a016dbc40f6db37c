use Rattle.std.proofs.Common.{◌≡◌, drop}
use Rattle.sc_text.specs.Flaws.{variable_names, is_among, unknown_names}
use Rattle.sc_text.specs.Told.{told_behind}
use Rattle.sc_text.proofs.drafts.scope.Scope.tell_unknown_names.Given as goal

abbrev pub invariant-loop-operation : goal.invariant-loop-operation
invariant-loop-operation l =
    told_behind l.found (unknown_names (is_among (variable_names l.self.variables.now)) (drop l.operation-index l.operations))
    ≡ told_behind l.fn.found (unknown_names (is_among (variable_names l.self.variables.now)) l.operations)
