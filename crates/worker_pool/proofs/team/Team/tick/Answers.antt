use Rattle.std.proofs.Common.{rules}
use Rattle.worker_pool.proofs.team.Team.tick.Goals as goal

pub complete-requires-after_bounds : goal.complete-requires-after_bounds
complete-requires-after_bounds g c = search rules
