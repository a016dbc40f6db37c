use Rattle.std.proofs.lemmas.Result.{err_from_is_err_and}
use Rattle.trace_player.proofs.Coming.{came_never}
use Rattle.trace_player.proofs.turns.begin.Goals as goal

pub returns-in_err-interface-clause-came : goal.returns-in_err-interface-clause-came
returns-in_err-interface-clause-came g c =
    let p = err_from_is_err_and c.from_residual.result c.from_residual.ensures.1 in
    came_never g.J.OfImage.image (g.P.Channels.seen c.args.channels.now) p.0 c.from_residual.result p.1 p.2
