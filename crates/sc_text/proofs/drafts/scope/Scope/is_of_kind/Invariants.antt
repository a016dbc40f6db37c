use Rattle.std.proofs.Common.{◌≡◌, [], drop}
use Rattle.sc_text.specs.Flaws.{kind_named, kinds_left}
use Rattle.sc_text.proofs.drafts.scope.Scope.is_of_kind.Given as goal

abbrev pub invariant-loop-operation : goal.invariant-loop-operation
invariant-loop-operation l =
    kinds_left (kind_named l.self.variables.now) (drop l.operation-index l.operations) l.stack ≡ kinds_left (kind_named l.self.variables.now) l.operations []
