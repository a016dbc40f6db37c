use Rattle.std.proofs.lemmas.Slice.Eq.{slice_eq-Decides}
use Rattle.sc_values.proofs.Equality.{value_decides}
use Rattle.tick_core.proofs.kept_claim.KeptClaim.has_same_operands.Goals as goal

pub returns-clause-same : goal.returns-clause-same
returns-clause-same c = slice_eq-Decides value_decides _ _ _ (rw (c.operands.ensures.value, c.operands-2.ensures.value) at c.eq.ensures)
