use Rattle.std.proofs.lemmas.Grind.{common_steps}
use Rattle.std.proofs.Common.{arith}
use Rattle.extended_reader.proofs.modules.bodies.closing.Goals as goal

pub loop-at-preserved : goal.loop-at-preserved
loop-at-preserved c = grind (arith, common_steps) steps 2000000

pub returns-then-depth-eq0-clause-place : goal.returns-then-depth-eq0-clause-place
returns-then-depth-eq0-clause-place c = grind (arith, common_steps) steps 2000000
