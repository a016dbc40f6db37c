use Rattle.std.proofs.Common.{length}
use Rattle.controller_tests.proofs.Alike.{Alike}
use Rattle.controller_tests.proofs.difference.first_difference.Given as goal

abbrev pub invariant-loop-rest : goal.invariant-loop-rest
invariant-loop-rest l = record { alike : Alike l.fn.wanted l.fn.got l.ahead l.others l.number }

abbrev pub decreases-loop-rest : goal.decreases-loop-rest
decreases-loop-rest l = length l.ahead
