use Rattle.std.proofs.lemmas.Slice.Eq.{slice_eq-Decides}
use Rattle.sc_values.proofs.Equality.{operation_decides}
use Rattle.sc_values.proofs.code.CodePartialEq.eq.Goals as goal

pub returns-clause-same : goal.returns-clause-same
returns-clause-same c =
    slice_eq-Decides operation_decides _ _ _
    (rw (c.operations.ensures.value, c.operations-2.ensures.value) at c.eq.ensures)
