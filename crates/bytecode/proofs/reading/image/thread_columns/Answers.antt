use Rattle.std.proofs.lemmas.Result.{err_from_is_err_and}
use Rattle.bytecode.specs.Layout.{thread_rows}
use Rattle.bytecode.specs.Reading.{each_at}
use Rattle.bytecode.specs.Reading.Nodes.{thread_at}
use Rattle.bytecode.proofs.Columns.{thread_rows_push, are_threads_push}
use Rattle.bytecode.proofs.Loop.{goes_on, ends_at, is_done}
use Rattle.bytecode.proofs.reading.image.thread_columns.Goals as goal

pub returns-in_err-row-clause-gives : goal.returns-in_err-row-clause-gives
returns-in_err-row-clause-gives c =
    let p = err_from_is_err_and c.from_residual.result c.from_residual.ensures.1 in
    rw (p.1, p.2) (ends_at thread_at c.in_err-row.field-0.0 (thread_rows c.loop.columns.threads c.loop.columns.bounds) c.args.count c.loop.counter
    c.loop.rest.now (each_at thread_at c.args.count c.args.bytes.now) c.loop-test.true c.in_err-row.ensures c.loop.invariant.read)

pub loop-preserved : goal.loop-preserved
loop-preserved c =
    let row = c.in_ok-row.row in
    let k = c.loop.invariant.lengths in
    rw (c.in_ok-push.ensures.ok, c.in_ok-push-2.ensures.ok) (record {
      lengths = are_threads_push c.loop.columns.threads c.loop.columns.bounds c.loop.counter row k;
      read = rw (thread_rows_push c.loop.columns.threads c.loop.columns.bounds c.loop.counter row k)
          (goes_on thread_at (thread_rows c.loop.columns.threads c.loop.columns.bounds) c.args.count c.loop.counter c.loop.rest.now row c.in_ok-row.after.now
          (each_at thread_at c.args.count c.args.bytes.now) c.loop-test.true c.in_ok-row.ensures c.loop.invariant.read);
    })

pub returns-clause-gives : goal.returns-clause-gives
returns-clause-gives c = is_done thread_at (thread_rows c.loop.columns.threads c.loop.columns.bounds) c.args.count c.loop.counter c.loop.rest.now
    (each_at thread_at c.args.count c.args.bytes.now) c.loop-test.false c.loop.invariant.read
