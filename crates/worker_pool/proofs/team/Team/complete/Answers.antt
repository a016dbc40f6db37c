use Rattle.std.proofs.Common.{arith, rules}
use Rattle.std.proofs.lemmas.Grind.{elements}
use Rattle.worker_pool.proofs.team.Team.complete.Goals as goal

pub returns-then-stretch : goal.returns-then-stretch
returns-then-stretch g c = grind (arith, elements) steps 2000000

pub returns-else-stretch : goal.returns-else-stretch
returns-else-stretch g c = search rules

pub complete_owned-requires-after_bounds : goal.complete_owned-requires-after_bounds
complete_owned-requires-after_bounds g c = search rules
