use Rattle.std.proofs.lemmas.Grind.{common_steps}
use Rattle.std.proofs.Common.{arith}
use Rattle.trace_player.proofs.session.Session.tick.Goals as goal

pub returns-clause-reacts : goal.returns-clause-reacts
returns-clause-reacts g c = grind (arith, common_steps) steps 2000000
