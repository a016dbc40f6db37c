use Rattle.std.proofs.Common.{◌≡◌, drop}
use Rattle.abort_expansion.specs.Flags.{aborts_around}
use Rattle.abort_expansion.proofs.flags.aborts_around.Given as goal

abbrev pub invariant-loop-flags : goal.invariant-loop-flags
invariant-loop-flags l = aborts_around (drop l.flags-index l.around) ≡ aborts_around l.around
