use Rattle.std.proofs.Common.{◌∙◌, ap, subst, sym, slice_index}
use Rattle.std.specs.Prelude.{MatchOption}
use Rattle.tick_core.specs.Rows.{Rows, AreEmpty, IsBare, IsFirst, IsIn}
use Rattle.tick_core.proofs.Reading.{empty_is, greatest_is, first_is}
use Rattle.tick_core.proofs.buckets.rows.Rows.first.Goals as goal

pub returns-then-self-eq0 : goal.returns-then-self-eq0
returns-then-self-eq0 c = subst AreEmpty c.self.view_is ((empty_is _ _ _ _ _ _ _ _ c.self.invariant).0 c.if-self-eq0.true)

pub returns : goal.returns
returns c =
    subst (λ (r : Rows). MatchOption c.member.result (AreEmpty r) (IsFirst r)) c.self.view_is
    (first_is _ _ _ _ _ _ _ _ c.self.invariant c.fall.result
    (greatest_is _ _ _ _ _ _ _ _ c.self.invariant c.fall.result c.if-self-eq0.false c.fall.ensures.at_most
    (λ other above below. ap (λ xs. slice_index xs other) (sym c.deref.ensures.value) ∙ c.fall.ensures.bare other above below)
    (λ none. c.fall.ensures.stands (ap (λ xs. slice_index xs c.fall.result) c.deref.ensures.value ∙ none)))
    c.member.result
    (subst (λ (r : Rows). MatchOption c.member.result (IsBare r c.fall.result) (λ t. IsIn r.classes t c.fall.result)) (sym c.self.view_is) c.member.ensures))
