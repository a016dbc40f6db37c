use Rattle.bytecode.specs.Reading.{each_at}
use Rattle.bytecode.specs.Reading.Fields.{variable_at}
use Rattle.bytecode.proofs.Loop.{goes_on, ends_at, is_done}
use Rattle.bytecode.proofs.reading.image.variable_list.Goals as goal

pub returns-in-Err : goal.returns-in-Err
returns-in-Err c = ends_at variable_at c.in-Err.fault c.loop.variables c.args.count c.loop.counter c.loop.rest.now
    (each_at variable_at c.args.count c.args.bytes.now) c.loop-test.true c.in-Err.ensures c.loop.invariant

pub loop-preserved : goal.loop-preserved
loop-preserved c =
    rw c.in_ok-push-in-Ok.ensures.ok (goes_on variable_at c.loop.variables c.args.count c.loop.counter c.loop.rest.now c.in-Ok.read c.in-Ok.after.now
    (each_at variable_at c.args.count c.args.bytes.now) c.loop-test.true c.in-Ok.ensures c.loop.invariant)

pub returns : goal.returns
returns c = is_done variable_at c.loop.variables c.args.count c.loop.counter c.loop.rest.now (each_at variable_at c.args.count c.args.bytes.now)
    c.loop-test.false c.loop.invariant
