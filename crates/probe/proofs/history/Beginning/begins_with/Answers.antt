use Rattle.std.proofs.Common.{ap, subst, List, refl}
use mathlib.Core.List.{IsPrefix}
use Rattle.probe.specs.Outputs.{Outputs}
use Rattle.probe.proofs.Prefixes.{shorter_first}
use Rattle.probe.proofs.history.Beginning.begins_with.Goals as goal

pub returns : goal.returns
returns c =
    let both = c.learn.new.self.log in
    let this : IsPrefix c.self.inside.seen.log both = subst (λ (l : List Outputs). IsPrefix l both) (ap (λ s. s.log) c.again-both.ensures) c.learn.ensures.2 in
    rw (← c.self.view_is, ← c.other.view_is)
    (shorter_first c.self.inside.seen.log c.other.inside.seen.log both _ _ this c.learn.ensures.3 c.self.invariant c.other.invariant _ refl)
