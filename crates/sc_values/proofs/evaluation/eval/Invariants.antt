use Rattle.sc_values.proofs.Evaluating.{Going}
use Rattle.sc_values.proofs.evaluation.eval.Given as goal

abbrev pub invariant-loop-operation : goal.invariant-loop-operation
invariant-loop-operation l = Going l.operands l.operation-items l.operation-index l.loaded l.stack
