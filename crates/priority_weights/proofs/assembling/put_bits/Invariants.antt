use Rattle.std.proofs.Common.{◌≡◌, ◌++◌, drop, map, nat_lt}
use Rattle.priority_weights.proofs.assembling.put_bits.Given as goal

abbrev pub invariant-loop-number : goal.invariant-loop-number
invariant-loop-number l = l.items ++ map (nat_lt 0) (drop l.number-index l.numbers) ≡ l.fn.items ++ map (nat_lt 0) l.numbers
