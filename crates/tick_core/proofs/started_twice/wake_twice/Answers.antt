use Rattle.std.proofs.Common.{◌≡◌, ◌+◌, Some, slice_get, get_or, sym, subst, arith}
use Rattle.std.proofs.lemmas.Option.{slice_get-get_or}
use Rattle.tick_core.specs.Space.There.{CopiedBelow, WokenBelow}
use Rattle.tick_core.proofs.ListedCopied.{copied_none, copied_more, all_copied}
use Rattle.tick_core.proofs.ListedWoken.{woken_none, woken_below, all_woken, copied_still}
use Rattle.tick_core.proofs.started_twice.wake_twice.Goals as goal

pub loop-at-init : goal.loop-at-init
loop-at-init c = record {
  woken = woken_none c.args.statuses.now c.args.listed.now;
  same = copied_none c.args.statuses.now c.args.others.now c.args.listed.now c.requires.places c.requires.changed;
}

pub loop-at-preserved : goal.loop-at-preserved
loop-at-preserved c =
    let l = c.loop-at in
    let thread = get_or c.args.listed.now l.at 0 in
    let is : slice_get c.args.listed.now l.at ≡ Some thread = slice_get-get_or c.args.listed.now l.at 0 c.loop-at-test.true in
    record {
      woken = subst (λ xs. WokenBelow c.args.statuses.now xs c.args.listed.now (l.at + 1)) (sym c.wake_one_twice.ensures.woken)
          (woken_below c.args.statuses.now l.statuses c.args.listed.now l.at thread l.invariant.woken is);
      same = subst (λ xs. CopiedBelow c.wake_one_twice.new.statuses xs c.args.listed.now (l.at + 1)) (sym c.wake_one_twice.ensures.same)
          (copied_more c.wake_one_twice.new.statuses l.others c.args.listed.now l.at thread
          (subst (λ xs. CopiedBelow xs l.others c.args.listed.now l.at) (sym c.wake_one_twice.ensures.woken)
          (copied_still l.statuses l.others c.args.listed.now l.at thread l.invariant.same is)) is);
    }

pub returns-clause-woken : goal.returns-clause-woken
returns-clause-woken c =
    all_woken c.args.statuses.now c.loop-at.statuses c.args.listed.now c.loop-at.at (omega (arith, c.loop-at-test.false)) c.requires.listed
    c.loop-at.invariant.woken

pub returns-clause-same : goal.returns-clause-same
returns-clause-same c =
    all_copied c.loop-at.statuses c.loop-at.others c.args.listed.now c.loop-at.at (omega (arith, c.loop-at-test.false)) c.loop-at.invariant.same
