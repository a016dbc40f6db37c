use Rattle.std.proofs.lemmas.Result.{err_from_is_err_and}
use Rattle.ruled_runs.proofs.RuledPlaying.{came_to, came_from, came_never, rests_there}
use Rattle.ruled_runs.proofs.traces.ruled_player.begin.Goals as goal

pub returns-in_err-interface-clause-came : goal.returns-in_err-interface-clause-came
returns-in_err-interface-clause-came g c =
    let p = err_from_is_err_and c.from_residual.result c.from_residual.ensures.1 in
    came_never c.args.rules c.args.verified.now c.args.from (g.P.Channels.seen c.args.channels.now) p.0 c.from_residual.result p.1 p.2

pub returns-in_err-first-clause-came : goal.returns-in_err-first-clause-came
returns-in_err-first-clause-came g c =
    let p = err_from_is_err_and c.from_residual-in_err-first.result c.from_residual-in_err-first.ensures.1 in
    came_never c.args.rules c.args.verified.now c.args.from (g.P.Channels.seen c.args.channels.now) p.0 c.from_residual-in_err-first.result p.1 p.2

pub returns-in-Ok-clause-came : goal.returns-in-Ok-clause-came
returns-in-Ok-clause-came g c =
    let facts = c.in_ok-first.ensures in
    rw c.place.ensures
    (came_to c.in_ok-first.first (λ p. record { rules = p.rules; image = p.room; place = p.place }) c.args.rules c.args.verified.now c.args.from
    facts.rules facts.image facts.place
    (g.P.Channels.seen c.args.channels.now) (g.P.Channels.seen c.play_from.new.channels) c.in-Ok.last c.in-Ok.ensures.came)

pub returns-clause-came : goal.returns-clause-came
returns-clause-came g c =
    let facts = c.in_ok-first.ensures in
    came_from c.in_ok-first.first (λ p. record { rules = p.rules; image = p.room; place = p.place }) c.args.rules c.args.verified.now c.args.from
    facts.rules facts.image facts.place
    (g.P.Channels.seen c.args.channels.now) (g.P.Channels.seen c.play_from.new.channels) c.in-Err.fault c.in-Err.ensures.came

pub returns-in-Ok-clause-rests : goal.returns-in-Ok-clause-rests
returns-in-Ok-clause-rests g c =
    rw c.place.ensures
    (rests_there c.in_ok-first.first (λ p. record { rules = p.rules; image = p.room; place = p.place }) c.args.rules c.args.verified.now
    c.in_ok-first.ensures.image
    (g.P.Channels.seen c.args.channels.now) (g.P.Channels.seen c.play_from.new.channels) c.in-Ok.last c.in-Ok.ensures.came c.in-Ok.ensures.ready.2)
