use Rattle.std.proofs.Common.{◌≡◌, true, Some, slice_get, get_or, arith}
use Rattle.std.proofs.lemmas.Option.{slice_get-get_or}
use Rattle.tick_core.proofs.StaysListed.{gains_none, gains_more, gains_all, gains_marked}
use Rattle.tick_core.proofs.listed.Listed.add_all.Goals as goal

pub loop-at-init : goal.loop-at-init
loop-at-init c = gains_none c.args.self.now c.args.threads.now

pub loop-at-preserved : goal.loop-at-preserved
loop-at-preserved c =
    let thread = get_or c.args.threads.now c.loop-at.at 0 in
    let is : slice_get c.args.threads.now c.loop-at.at ≡ Some thread = slice_get-get_or c.args.threads.now c.loop-at.at 0 c.loop-at-test.true in
    gains_more c.args.self.now c.loop-at.self c.add.new.self c.args.threads.now c.loop-at.at thread c.loop-at.invariant is c.add.ensures

pub returns : goal.returns
returns c =
    gains_marked c.args.self.now c.loop-at.self c.args.threads.now true
    (gains_all c.args.self.now c.loop-at.self c.args.threads.now c.loop-at.at (omega (arith, c.loop-at-test.false)) c.loop-at.invariant)
