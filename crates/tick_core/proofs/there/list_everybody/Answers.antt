use Rattle.std.proofs.lemmas.Grind.{common_steps}
use Rattle.std.proofs.Common.{Contains, sym, subst, arith}
use Rattle.tick_core.proofs.ListedThreads.{push_each}
use Rattle.tick_core.proofs.there.list_everybody.Goals as goal

pub loop-thread-preserved : goal.loop-thread-preserved
loop-thread-preserved c =
    record {
      long = omega (arith, c.push_reserved.ensures.len, c.loop-thread.invariant.long);
      room = omega (arith, c.push_reserved.ensures.capacity, c.loop-thread.invariant.room);
      each = λ t less. subst (λ xs. Contains xs t) (sym c.push_reserved.ensures.items)
          (push_each c.loop-thread.listed.items c.loop-thread.thread c.loop-thread.invariant.each t less);
    }

pub returns-clause-listed : goal.returns-clause-listed
returns-clause-listed c = λ t below. c.loop-thread.invariant.each t (omega (arith, below, c.loop-thread-test.false, c.thread_count-thread-end.ensures.count))

pub loop-thread-init : goal.loop-thread-init
loop-thread-init c = grind (arith, common_steps) steps 2000000
