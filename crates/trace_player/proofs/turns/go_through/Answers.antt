use Rattle.std.proofs.lemmas.Result.{err_from_is_err_and}
use Rattle.trace_player.proofs.Coming.{came_never}
use Rattle.trace_player.proofs.HeldBack.{settled, unsettled}
use Rattle.trace_player.proofs.turns.go_through.Goals as goal

pub returns-in_err-buffers-clause-came : goal.returns-in_err-buffers-clause-came
returns-in_err-buffers-clause-came g c =
    let p = err_from_is_err_and c.from_residual.result c.from_residual.ensures.1 in
    came_never g.J.OfImage.image (g.P.Channels.seen c.args.channels.now) p.0 c.from_residual.result p.1 p.2

pub returns-then-settle-clause-came : goal.returns-then-settle-clause-came
returns-then-settle-clause-came g c =
    let on = c.go_on-result in
    settled g.J.OfImage.image (g.P.Channels.seen c.args.channels.now) (g.P.Channels.seen on.new.channels) (g.P.Channels.seen c.settle.new.channels)
    on.new.held.items on.result on.ensures.came.1.grows (c.settle.ensures.whole c.if-settle.true) c.settle.ensures.source c.settle.ensures.rows
    on.ensures.came.0

pub returns-clause-came : goal.returns-clause-came
returns-clause-came g c =
    let on = c.go_on-result in
    unsettled g.J.OfImage.image (g.P.Channels.seen c.args.channels.now) (g.P.Channels.seen on.new.channels) (g.P.Channels.seen c.settle.new.channels)
    on.new.held.items on.result on.ensures.came.0 on.ensures.came.1 on.ensures.read on.ensures.write (c.settle.ensures.held c.if-settle.false)
    (c.settle.ensures.part c.if-settle.false) c.settle.ensures.source c.settle.ensures.rows
