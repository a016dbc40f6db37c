use Rattle.tick_core.proofs.SameClaim.{operands_decide}
use Rattle.tick_core.proofs.kept_claim.KeptClaim.does_same.Goals as goal

pub returns-then-has_same_code : goal.returns-then-has_same_code
returns-then-has_same_code c =
    operands_decide _ _ _ c.has_same_operands.ensures.fit c.has_same_operands.ensures.kept (c.has_same_code.ensures.0 c.if-has_same_code.true)
    c.has_same_operands.ensures.same
