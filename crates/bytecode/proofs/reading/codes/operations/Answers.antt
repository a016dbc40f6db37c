use Rattle.std.proofs.Common.{◌∷◌, [], arith}
use Rattle.std.proofs.lemmas.Result.{err_from_is_err_and}
use Rattle.std.proofs.lemmas.List.{length-append}
use Rattle.bytecode.specs.Reading.{each_at}
use Rattle.bytecode.specs.Reading.Codes.{operation_at}
use Rattle.bytecode.proofs.Loop.{goes_on, stops, is_done}
use Rattle.bytecode.proofs.reading.codes.operations.Goals as goal

pub returns-in_err-operation : goal.returns-in_err-operation
returns-in_err-operation c =
    let p = err_from_is_err_and c.from_residual.result c.from_residual.ensures.1 in
    rw (p.1, p.2) (stops (operation_at c.args.version) c.in_err-operation.field-0.0 c.loop.code c.args.count c.loop.counter c.loop.rest.now
    (each_at (operation_at c.args.version) c.args.count c.args.bytes.now) c.loop-test.true c.in_err-operation.ensures c.loop.invariant.read)

pub loop-preserved : goal.loop-preserved
loop-preserved c =
    let n = c.in_ok-operation.operation in
    record {
      one_each = rw c.push.ensures (omega (arith, length-append c.loop.code (n ∷ []), c.loop.invariant.one_each));
      read = rw c.push.ensures (goes_on (operation_at c.args.version) c.loop.code c.args.count c.loop.counter c.loop.rest.now n c.in_ok-operation.after.now
          (each_at (operation_at c.args.version) c.args.count c.args.bytes.now) c.loop-test.true c.in_ok-operation.ensures c.loop.invariant.read);
    }

pub returns : goal.returns
returns c = is_done (operation_at c.args.version) c.loop.code c.args.count c.loop.counter c.loop.rest.now
    (each_at (operation_at c.args.version) c.args.count c.args.bytes.now) c.loop-test.false c.loop.invariant.read
