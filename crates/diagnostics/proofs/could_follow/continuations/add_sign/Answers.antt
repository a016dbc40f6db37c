use Rattle.std.proofs.Common.{subst, sym}
use Rattle.diagnostics.specs.Continuations.{CanFollow}
use Rattle.diagnostics.proofs.Following.{unadded}
use Rattle.diagnostics.proofs.could_follow.continuations.add_sign.Goals as goal

pub returns-else-branch : goal.returns-else-branch
returns-else-branch c =
    unadded _ _ _ _ _ c.if-branch.false c.in_ok-can_follow.ensures
    (λ can. subst (CanFollow c.args.grammar c.args.front.now) (sym c.text.ensures) can)
