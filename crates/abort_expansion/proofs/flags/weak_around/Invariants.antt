use Rattle.std.proofs.Common.{◌≡◌, drop}
use Rattle.abort_expansion.specs.Flags.{weak_around}
use Rattle.abort_expansion.proofs.flags.weak_around.Given as goal

abbrev pub invariant-loop-flags : goal.invariant-loop-flags
invariant-loop-flags l = weak_around (drop l.flags-index l.around) ≡ weak_around l.around
