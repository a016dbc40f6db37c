use Rattle.std.proofs.lemmas.Grind.{elements}
use Rattle.std.proofs.Common.{arith}
use Rattle.std.proofs.lemmas.Result.{err_from_is_err_and}
use Rattle.bytecode.specs.Layout.{node_rows}
use Rattle.bytecode.specs.Reading.{each_at}
use Rattle.bytecode.specs.Reading.Nodes.{node_at}
use Rattle.bytecode.proofs.Columns.{node_rows_push, are_nodes_push}
use Rattle.bytecode.proofs.Loop.{goes_on, ends, is_done}
use Rattle.bytecode.proofs.reading.image.node_columns.Goals as goal

pub returns-in_err-row-clause-gives : goal.returns-in_err-row-clause-gives
returns-in_err-row-clause-gives c =
    let p = err_from_is_err_and c.from_residual.result c.from_residual.ensures.1 in
    let front = node_rows c.loop.columns.nodes c.loop.columns.priorities c.loop.columns.weights c.loop.columns.end_bits in
    rw (p.1, p.2) (ends (node_at c.args.version) c.in_err-row.field-0.0 front c.args.count c.loop.counter c.loop.rest.now
    (each_at (node_at c.args.version) c.args.count c.args.bytes.now) c.loop-test.true c.in_err-row.ensures c.loop.invariant.read)

pub loop-preserved : goal.loop-preserved
loop-preserved c =
    let row = c.in_ok-row.row in
    let k = c.loop.invariant.lengths in
    let front = node_rows c.loop.columns.nodes c.loop.columns.priorities c.loop.columns.weights c.loop.columns.end_bits in
    rw (c.in_ok-push.ensures.ok, c.in_ok-push-2.ensures.ok, c.in_ok-push-3.ensures.ok, c.in_ok-push-4.ensures.ok) (record {
      lengths = are_nodes_push c.loop.columns.nodes c.loop.columns.priorities c.loop.columns.weights c.loop.columns.end_bits c.loop.counter row k;
      read = rw (node_rows_push c.loop.columns.nodes c.loop.columns.priorities c.loop.columns.weights c.loop.columns.end_bits c.loop.counter row k)
          (goes_on (node_at c.args.version) front c.args.count c.loop.counter c.loop.rest.now row c.in_ok-row.after.now
          (each_at (node_at c.args.version) c.args.count c.args.bytes.now) c.loop-test.true c.in_ok-row.ensures c.loop.invariant.read);
    })

pub returns-clause-gives : goal.returns-clause-gives
returns-clause-gives c =
    let front = node_rows c.loop.columns.nodes c.loop.columns.priorities c.loop.columns.weights c.loop.columns.end_bits in
    is_done (node_at c.args.version) front c.args.count c.loop.counter c.loop.rest.now (each_at (node_at c.args.version) c.args.count c.args.bytes.now)
    c.loop-test.false c.loop.invariant.read

pub loop-init : goal.loop-init
loop-init c = grind (arith, elements) steps 2000000
