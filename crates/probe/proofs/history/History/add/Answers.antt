use Rattle.std.proofs.lemmas.Grind.{common_steps}
use Rattle.std.proofs.Common.{arith}
use Rattle.probe.proofs.history.History.add.Goals as goal

pub invariant_of-drop : goal.invariant_of-drop
invariant_of-drop c = grind (arith, common_steps) steps 2000000

pub invariant_of-self : goal.invariant_of-self
invariant_of-self c = grind (arith, common_steps) steps 2000000
