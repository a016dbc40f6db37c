use Rattle.std.proofs.lemmas.Grind.{common_steps}
use Rattle.std.proofs.Common.{arith}
use Rattle.probe.proofs.publisher.Publisher.observer.Goals as goal

pub new-requires : goal.new-requires
new-requires c = grind (arith, common_steps) steps 2000000
