use Rattle.std.proofs.Common.{◌∙◌, ◌+◌, length, length-set, sym, ap, subst, arith}
use Rattle.tick_core.specs.Space.There.{AbsentBelow}
use Rattle.tick_core.proofs.ListedCopied.{absent_more, absent_all}
use Rattle.tick_core.proofs.there.clear_all.Goals as goal

pub loop-thread-preserved : goal.loop-thread-preserved
loop-thread-preserved c =
    record {
      long = ap length c.set.ensures ∙ (length-set _ _ _ ∙ c.loop-thread.invariant.long);
      absent = subst (λ ss. AbsentBelow ss (c.loop-thread.thread + 1)) (sym c.set.ensures)
          (absent_more c.loop-thread.statuses c.loop-thread.thread c.loop-thread.invariant.absent);
    }

pub returns-clause-absent : goal.returns-clause-absent
returns-clause-absent c =
    absent_all c.loop-thread.statuses c.loop-thread.thread (omega (arith, c.loop-thread-test.false, c.loop-thread.invariant.long, c.len-thread-end.ensures))
    c.loop-thread.invariant.absent
