use Rattle.std.proofs.Common.{◌∙◌, ap, sym, slice_index}
use Rattle.tick_core.proofs.Reading.{greatest_is, fallen}
use Rattle.tick_core.proofs.buckets.rows.Rows.settle.Goals as goal

pub invariant_of-self : goal.invariant_of-self
invariant_of-self c =
    fallen _ _ _ _ _ _ _ _ c.self.invariant _
    (greatest_is _ _ _ _ _ _ _ _ c.self.invariant c.fall-self-inside.result c.if-self-eq0.false c.fall-self-inside.ensures.at_most
    (λ other above below. ap (λ xs. slice_index xs other) (sym c.deref.ensures.value) ∙ c.fall-self-inside.ensures.bare other above below)
    (λ none. c.fall-self-inside.ensures.stands (ap (λ xs. slice_index xs c.fall-self-inside.result) c.deref.ensures.value ∙ none)))
