use Rattle.std.proofs.Common.{arith}
use Rattle.std.proofs.lemmas.Grind.{common_steps}
use Rattle.abort_expansion.proofs.checks.put_strong_checks.Goals as goal

pub loop-flags-preserved : goal.loop-flags-preserved
loop-flags-preserved c = grind (arith, common_steps) steps 2000000
