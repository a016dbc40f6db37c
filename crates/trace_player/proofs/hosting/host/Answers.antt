use Rattle.std.proofs.Common.{Err, refl}
use Rattle.std.proofs.lemmas.Result.{err_from_is_err_and}
use Rattle.trace_player.proofs.Coming.{came_never}
use Rattle.trace_player.specs.declared.player.PlayFault.TheVariants as play_fault
use Rattle.trace_player.proofs.hosting.host.Goals as goal

pub returns-in_err-shared-clause-came : goal.returns-in_err-shared-clause-came
returns-in_err-shared-clause-came g c =
    let p = err_from_is_err_and c.from_residual.result c.from_residual.ensures.1 in
    came_never g.J.OfImage.image (g.P.Channels.seen c.args.channels.now) p.0 c.from_residual.result p.1 p.2

pub returns-in_default-clause-came : goal.returns-in_default-clause-came
returns-in_default-clause-came g c =
    came_never g.J.OfImage.image (g.P.Channels.seen c.args.channels.now) play_fault.Memory (Err play_fault.Memory) refl refl
