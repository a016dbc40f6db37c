use Rattle.std.proofs.Common.{◌≡◌, ◌+◌, Some, slice_get, get_or, sym, subst, arith}
use Rattle.std.proofs.lemmas.Option.{slice_get-get_or}
use Rattle.tick_core.specs.Space.There.{ClearedBelow}
use Rattle.tick_core.proofs.ListedCopied.{cleared_none, cleared_more, all_cleared}
use Rattle.tick_core.proofs.there.clear_listed.Goals as goal

pub loop-at-init : goal.loop-at-init
loop-at-init c = cleared_none c.args.statuses.now c.args.listed.now

pub loop-at-preserved : goal.loop-at-preserved
loop-at-preserved c =
    let thread = get_or c.args.listed.now c.loop-at.at 0 in
    let is : slice_get c.args.listed.now c.loop-at.at ≡ Some thread = slice_get-get_or c.args.listed.now c.loop-at.at 0 c.loop-at-test.true in
    subst (λ xs. ClearedBelow c.args.statuses.now xs c.args.listed.now (c.loop-at.at + 1)) (sym c.put_status.ensures)
    (cleared_more c.args.statuses.now c.loop-at.statuses c.args.listed.now c.loop-at.at thread c.loop-at.invariant is)

pub returns-clause-absent : goal.returns-clause-absent
returns-clause-absent c =
    all_cleared c.args.statuses.now c.loop-at.statuses c.args.listed.now c.loop-at.at (omega (arith, c.loop-at-test.false)) c.requires c.loop-at.invariant
