use Rattle.std.proofs.lemmas.Slice.Eq.{slice_eq-Decides}
use Rattle.sc_values.proofs.Equality.{value_decides}
use Rattle.sc_values.proofs.operands.OperandsPartialEq.eq.Goals as goal

pub returns-clause-same : goal.returns-clause-same
returns-clause-same c =
    slice_eq-Decides value_decides _ _ _ (rw (c.values.ensures.value, c.values-2.ensures.value) at c.eq.ensures)
