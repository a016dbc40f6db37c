use Rattle.std.proofs.Common.{◌≢◌, ◌<◌, ℕ, Some, slice_get}
use Rattle.tick_core.specs.Claims.{Claim}
use Rattle.tick_core.proofs.state.ending.close_all.Given as goal

abbrev pub invariant-loop-claim : goal.invariant-loop-claim
invariant-loop-claim l = (t : ℕ) (a : Claim) → t < l.claim-index → slice_get l.claim-items t ≢ Some (Some a)
