use Rattle.std.proofs.lemmas.Grind.{common_steps}
use Rattle.std.proofs.Common.{arith}
use Rattle.probe.proofs.publisher.put_in.Goals as goal

pub put-copies-requires : goal.put-copies-requires
put-copies-requires g c = grind (arith, common_steps) steps 2000000
