use Rattle.sc_values.proofs.Loaded.{Gathers}
use Rattle.sc_values.proofs.operands.Operands.present.Given as goal

abbrev pub invariant-loop-operation : goal.invariant-loop-operation
invariant-loop-operation l = Gathers l.variables l.operation-items l.operation-index l.operands
