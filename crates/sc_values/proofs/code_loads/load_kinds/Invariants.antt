use Rattle.sc_values.proofs.Loaded.{Gathers}
use Rattle.sc_values.proofs.code_loads.load_kinds.Given as goal

abbrev pub invariant-loop-operation : goal.invariant-loop-operation
invariant-loop-operation l = Gathers l.kinds l.operation-items l.operation-index l.found.items
