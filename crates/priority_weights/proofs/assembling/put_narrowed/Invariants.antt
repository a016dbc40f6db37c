use Rattle.std.proofs.Common.{◌≡◌, ◌++◌, drop}
use Rattle.priority_weights.proofs.assembling.put_narrowed.Given as goal

abbrev pub invariant-loop-number : goal.invariant-loop-number
invariant-loop-number l = l.items ++ drop l.number-index l.numbers ≡ l.fn.items ++ l.numbers
