use Rattle.std.proofs.Common.{◌<◌}
use Rattle.diagnostics.proofs.Following.{begun, adds_next, all_taken}
use Rattle.diagnostics.proofs.could_follow.continuations.signs.Goals as goal

pub loop-sign-init : goal.loop-sign-init
loop-sign-init c = begun _ _ c.new-found.ensures

pub loop-sign-preserved : goal.loop-sign-preserved
loop-sign-preserved c =
    let within : c.loop-sign.sign-index < 20 = c.loop-sign-test.true in
    adds_next _ _ _ _ c.loop-sign.sign-index _ within c.loop-sign.invariant c.in_ok-add_sign.ensures

pub returns : goal.returns
returns c = all_taken _ _ _ c.loop-sign.sign-index c.loop-sign-test.false c.loop-sign.invariant
