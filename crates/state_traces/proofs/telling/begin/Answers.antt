use Rattle.std.proofs.Common.{ap}
use Rattle.std.proofs.lemmas.Result.{err_from_is_err_and}
use Rattle.state_traces.proofs.Playing.{came_well, came_from, came_never}
use Rattle.state_traces.proofs.telling.begin.Goals as goal

pub returns-in_err-interface-clause-came : goal.returns-in_err-interface-clause-came
returns-in_err-interface-clause-came g c =
    let p = err_from_is_err_and c.from_residual.result c.from_residual.ensures.1 in
    came_never (g.W.Words.words c.args.words.now) c.args.verified.now (g.P.Channels.seen c.args.channels.now)
    p.0 c.from_residual.result p.1 p.2

pub returns-in_err-first-clause-came : goal.returns-in_err-first-clause-came
returns-in_err-first-clause-came g c =
    let p = err_from_is_err_and c.from_residual-in_err-first.result c.from_residual-in_err-first.ensures.1 in
    came_never (g.W.Words.words c.args.words.now) c.args.verified.now (g.P.Channels.seen c.args.channels.now)
    p.0 c.from_residual-in_err-first.result p.1 p.2

pub returns-in-Ok-clause-came : goal.returns-in-Ok-clause-came
returns-in-Ok-clause-came g c =
    let w = g.W.Words.words c.args.words.now in
    let i = c.args.verified.now in
    let first = c.in_ok-first.first in
    let facts = c.in_ok-first.ensures in
    rw c.ticks.ensures
    (came_well first (λ p. record { words = g.W.Words.words p.words.now; image = p.room; ticks = p.ticks; control = p.control }) w i
    (record { words_are = ap g.W.Words.words facts.words; image_is = facts.image; ticks = facts.ticks; control = facts.control })
    (g.P.Channels.seen c.args.channels.now) (g.P.Channels.seen c.play_from.new.channels) c.in-Ok.last c.in-Ok.ensures.came)

pub returns-clause-came : goal.returns-clause-came
returns-clause-came g c =
    let w = g.W.Words.words c.args.words.now in
    let i = c.args.verified.now in
    let first = c.in_ok-first.first in
    let facts = c.in_ok-first.ensures in
    came_from first (λ p. record { words = g.W.Words.words p.words.now; image = p.room; ticks = p.ticks; control = p.control }) w i
    (record { words_are = ap g.W.Words.words facts.words; image_is = facts.image; ticks = facts.ticks; control = facts.control })
    (g.P.Channels.seen c.args.channels.now) (g.P.Channels.seen c.play_from.new.channels) c.in-Err.fault c.in-Err.ensures.came
