use Rattle.std.proofs.lemmas.Slice.Eq.{slice_eq-Decides}
use Rattle.sc_values.proofs.Equality.{operation_decides}
use Rattle.sc_graph.proofs.same.steps.is_same_code.Goals as goal

pub returns : goal.returns
returns c =
    slice_eq-Decides operation_decides _ _ _
    (rw (c.operations.ensures.value, c.operations-2.ensures.value) at c.eq.ensures)
