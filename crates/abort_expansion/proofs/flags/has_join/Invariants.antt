use Rattle.std.proofs.Common.{◌≡◌, drop}
use Rattle.abort_expansion.specs.Flags.{has_join}
use Rattle.abort_expansion.proofs.flags.has_join.Given as goal

abbrev pub invariant-loop-transition : goal.invariant-loop-transition
invariant-loop-transition l = has_join (drop l.transition-index l.all) ≡ has_join l.all
