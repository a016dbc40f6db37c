use Rattle.tick_core.proofs.SameClaim.{codes_decide}
use Rattle.tick_core.proofs.kept_claim.same_code.Goals as goal

pub returns-in-Some-Some : goal.returns-in-Some-Some
returns-in-Some-Some c = rw (c.in-Some-Some.is-0, c.in-Some-Some.is-1) (codes_decide _ _ _ (rw (c.code.ensures.value) at c.eq.ensures))
