use Rattle.std.proofs.lemmas.Grind.{common_steps}
use Rattle.std.proofs.Common.{arith}
use Rattle.ruled_runs.proofs.controls.values.values_in.Goals as goal

pub returns : goal.returns
returns c = grind (arith, common_steps) steps 2000000
