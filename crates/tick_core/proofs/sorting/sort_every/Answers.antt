use Rattle.std.proofs.Common.{arith, sym, subst}
use Rattle.tick_core.specs.Space.Sorting.{AreSorted, ready_row}
use Rattle.tick_core.proofs.Unmoved.{sorted_more}
use Rattle.tick_core.proofs.sorting.sort_every.Goals as goal

pub loop-thread-preserved : goal.loop-thread-preserved
loop-thread-preserved c =
    record {
      own = c.sort.ensures.rows;
      each = sorted_more c.args.program.now c.args.tables.now (ready_row c.args.program.now c.args.tables.now c.args.control.now c.args.claims.now)
          c.loop-thread.thread c.loop-thread.rows c.sort.new.rows c.loop-thread.invariant.own
          (omega (arith, c.loop-thread-test.true, c.thread_count-thread-end.ensures.count)) c.loop-thread.invariant.each c.sort.ensures.sorted;
    }

pub returns : goal.returns
returns c =
    subst (AreSorted c.args.program.now c.args.tables.now c.args.control.now c.args.claims.now) (sym c.settle.ensures)
    (record {
      own_rows = c.loop-thread.invariant.own;
      each = λ t below. c.loop-thread.invariant.each t (omega (arith, c.loop-thread-test.false, c.thread_count-thread-end.ensures.count));
    })
