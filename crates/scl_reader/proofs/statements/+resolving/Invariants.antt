use Rattle.std.proofs.Common.{◌≡◌, ◌++◌, drop}
use Rattle.sc_text.specs.Flaws.{variable_names}
use Rattle.scl_reader.specs.Resolved.{statements_of, branches_of}
use Rattle.scl_reader.proofs.statements.+resolving.Given as goal

abbrev pub invariant-statements-loop-text : goal.invariant-statements-loop-text
invariant-statements-loop-text l =
    l.all ++ statements_of (variable_names l.scope.variables.now) (drop l.text-index l.texts)
    ≡ statements_of (variable_names l.scope.variables.now) l.texts

abbrev pub invariant-statement-loop-branch : goal.invariant-statement-loop-branch
invariant-statement-loop-branch l =
    l.all ++ branches_of (variable_names l.scope.variables.now) (drop l.branch-index l.branch-items)
    ≡ branches_of (variable_names l.scope.variables.now) l.branch-items
