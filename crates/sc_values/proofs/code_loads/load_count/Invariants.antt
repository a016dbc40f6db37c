use Rattle.std.proofs.Common.{◌≡◌, ◌+◌, ◌≤◌, length, drop}
use Rattle.sc_values.specs.Code.{loads}
use Rattle.sc_values.proofs.code_loads.load_count.Given as goal

abbrev pub invariant-loop-operation : goal.invariant-loop-operation
invariant-loop-operation l = (l.count + length (loads (drop l.operation-index l.operations)) ≡ length (loads l.operations)) × (l.count ≤ l.operation-index)
