use Rattle.std.proofs.lemmas.Grind.{common_steps}
use Rattle.std.proofs.Common.{arith}
use Rattle.trace_player.proofs.hosting.meet.Goals as goal

pub scoped-requires : goal.scoped-requires
scoped-requires g c = grind (arith, common_steps) steps 2000000
