use Rattle.std.proofs.Common.{◌≡◌, ◌<◌, ◌∙◌, Some, length, slice_get, refl, sym, subst, arith}
use Rattle.std.proofs.lemmas.Option.{slice_get_read}
use Rattle.tick_core.specs.Inside.Astir.{StaysListed}
use Rattle.tick_core.proofs.StaysListed.{kept_none, kept_more, kept_all}
use Rattle.tick_core.proofs.listed.keep_astir.Goals as goal

pub loop-at-init : goal.loop-at-init
loop-at-init c = record { kept = kept_none c.args.control.now c.args.threads.now.items; room = refl }

pub loop-at-preserved : goal.loop-at-preserved
loop-at-preserved c =
    let xs = c.loop-at.threads.items in
    let thread = c.index-thread.result.now in
    let within : c.loop-at.at < length xs = omega (arith, c.loop-at-test.true, c.len-at-end.ensures, c.loop-at.invariant.kept.long) in
    let is : slice_get xs c.loop-at.at ≡ Some thread = slice_get_read _ _ _ _ refl within c.index-thread.ensures in
    record {
      kept = kept_more c.args.control.now c.args.threads.now.items xs c.keep_one-count.new.threads.items c.loop-at.at c.loop-at.count
          c.keep_one-count.result thread c.loop-at.invariant.kept is c.keep_one-count.ensures.kept;
      room = c.keep_one-count.ensures.room ∙ c.loop-at.invariant.room;
    }

pub returns-clause-kept : goal.returns-clause-kept
returns-clause-kept c =
    subst (StaysListed c.args.control.now c.args.threads.now.items) (sym c.truncate.ensures.items)
    (kept_all c.args.control.now c.args.threads.now.items c.loop-at.threads.items c.loop-at.at c.loop-at.count
    (omega (arith, c.loop-at-test.false, c.len-at-end.ensures)) c.loop-at.invariant.kept)
