use Rattle.std.proofs.lemmas.Result.{err_from_is_err_and}
use Rattle.std.specs.Int.{w16}
use Rattle.bytecode.specs.Reading.{each_at}
use Rattle.bytecode.specs.Reading.Fields.{number_at}
use Rattle.bytecode.proofs.Loop.{goes_on, ends_at, is_done}
use Rattle.bytecode.proofs.reading.nodes.children.Goals as goal

pub returns-in_err-child : goal.returns-in_err-child
returns-in_err-child c =
    let p = err_from_is_err_and c.from_residual.result c.from_residual.ensures.1 in
    rw (p.1, p.2) (ends_at (number_at w16) c.in_err-child.field-0.0 c.loop.children c.args.count c.loop.counter c.loop.rest.now
    (each_at (number_at w16) c.args.count c.args.bytes.now) c.loop-test.true c.in_err-child.ensures c.loop.invariant)

pub loop-preserved : goal.loop-preserved
loop-preserved c =
    rw c.in_ok-push.ensures.ok (goes_on (number_at w16) c.loop.children c.args.count c.loop.counter c.loop.rest.now c.in_ok-child.child c.in_ok-child.after.now
    (each_at (number_at w16) c.args.count c.args.bytes.now) c.loop-test.true c.in_ok-child.ensures c.loop.invariant)

pub returns : goal.returns
returns c = is_done (number_at w16) c.loop.children c.args.count c.loop.counter c.loop.rest.now (each_at (number_at w16) c.args.count c.args.bytes.now)
    c.loop-test.false c.loop.invariant
