use Rattle.std.proofs.Common.{ap}
use Rattle.std.proofs.lemmas.Slice.Eq.{slice_eq-Decides}
use Rattle.sc_values.proofs.Equality.{kind_decides, operation_decides, same_operations, other_operations}
use Rattle.sc_values.proofs.checked.CheckedCodePartialEq.eq.Goals as goal

pub returns-then-eq-clause-same : goal.returns-then-eq-clause-same
returns-then-eq-clause-same c =
    same_operations _ _ _ _ _ (ap (λ x. x.operations) c.self.view_is) (ap (λ x. x.operations) c.other.view_is)
    ((slice_eq-Decides operation_decides _ _ _ c.eq.ensures).0 c.if-eq.true)
    (slice_eq-Decides kind_decides _ _ _ (rw (c.loads.ensures, c.loads-then-eq.ensures) at c.eq-then-eq.ensures))

pub returns-else-eq-clause-same : goal.returns-else-eq-clause-same
returns-else-eq-clause-same c =
    other_operations _ _ _ _ _ (ap (λ x. x.operations) c.self.view_is) (ap (λ x. x.operations) c.other.view_is)
    (slice_eq-Decides operation_decides _ _ _ c.eq.ensures) c.if-eq.false
