use Rattle.tick_core.proofs.SameClaim.{work_decides}
use Rattle.tick_core.proofs.kept_claim.KeptClaim.is_same.Goals as goal

pub returns-then-is_alike : goal.returns-then-is_alike
returns-then-is_alike c = work_decides _ _ _ (c.is_alike.ensures.0 c.if-is_alike.true) c.does_same.ensures
