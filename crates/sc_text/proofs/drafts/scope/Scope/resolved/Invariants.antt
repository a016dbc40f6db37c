use Rattle.std.proofs.Common.{◌≡◌, [], drop, reverse}
use Rattle.sc_values.specs.Code.{trees}
use Rattle.sc_text.specs.Flaws.{variable_names}
use Rattle.sc_text.specs.Resolved.{code_of}
use Rattle.sc_text.proofs.drafts.scope.Scope.resolved.Given as goal

abbrev pub invariant-loop-operation : goal.invariant-loop-operation
invariant-loop-operation l =
    trees (code_of (variable_names l.self.variables.now) (drop l.operation-index l.expression.operations)) (reverse l.trees)
    ≡ trees (code_of (variable_names l.self.variables.now) l.expression.operations) []
