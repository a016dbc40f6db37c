use Rattle.std.proofs.lemmas.Grind.{common_steps}
use Rattle.std.proofs.Common.{arith}
use Rattle.simulation.proofs.simulating.simulate.Goals as goal

pub greet-told-requires : goal.greet-told-requires
greet-told-requires g c = grind (arith, common_steps) steps 2000000
