use Rattle.std.proofs.Common.{◌≡◌, [], drop}
use Rattle.sc_values.specs.Inside.Stack.{tested}
use Rattle.sc_values.proofs.well_formed.kind_of_code.Given as goal

abbrev pub invariant-loop-operation : goal.invariant-loop-operation
invariant-loop-operation l = tested l.kinds (drop l.operation-index l.operations) l.stack ≡ tested l.kinds l.operations []
