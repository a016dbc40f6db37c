use Rattle.std.proofs.lemmas.Result.{err_from_is_err_and}
use Rattle.trace_player.proofs.LineComing.{came_never}
use Rattle.trace_player.proofs.line_players.turns.play_from.Goals as goal

pub returns-in_err-lines-clause-came : goal.returns-in_err-lines-clause-came
returns-in_err-lines-clause-came g c =
    let p = err_from_is_err_and c.from_residual.result c.from_residual.ensures.1 in
    came_never g.L.LinePlayer.makes g.L.LinePlayer.ends c.args.player (g.P.Channels.seen c.args.channels.now)
    p.0 c.from_residual.result p.1 p.2
