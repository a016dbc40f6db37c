use Rattle.trace_player.proofs.Took.{took_both, took_less, took_more}
use Rattle.trace_player.proofs.holding.pass_on.Goals as goal

pub returns-then-not-settle-clause-part : goal.returns-then-not-settle-clause-part
returns-then-not-settle-clause-part g c = λ _.
    took_less (g.P.Channels.seen c.args.channels.now).sink (g.P.Channels.seen c.settle.new.channels).sink c.args.held.now.items c.args.shown.now
    (c.settle.ensures.part c.if-not-settle.true)

pub returns-clause-whole : goal.returns-clause-whole
returns-clause-whole g c = λ e.
    took_both (g.P.Channels.seen c.args.channels.now).sink (g.P.Channels.seen c.settle.new.channels).sink (g.P.Channels.seen c.write.new.self).sink
    c.args.held.now.items c.args.shown.now (c.settle.ensures.whole c.if-not-settle.false) (c.write.ensures.whole e)

pub returns-clause-part : goal.returns-clause-part
returns-clause-part g c = λ e.
    took_more (g.P.Channels.seen c.args.channels.now).sink (g.P.Channels.seen c.settle.new.channels).sink (g.P.Channels.seen c.write.new.self).sink
    c.args.held.now.items c.args.shown.now (c.settle.ensures.whole c.if-not-settle.false) (c.write.ensures.part e)
