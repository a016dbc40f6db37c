use Rattle.std.proofs.lemmas.Grind.{common_steps}
use Rattle.std.proofs.Common.{arith}
use Rattle.trace_player.proofs.session.Session.go_on.Goals as goal

pub go_on-requires-clause-over : goal.go_on-requires-clause-over
go_on-requires-clause-over g c = grind (arith, common_steps) steps 2000000
