use Rattle.std.proofs.lemmas.Grind.{common_steps}
use Rattle.std.proofs.Common.{arith}
use Rattle.controller_tests.proofs.shown.shown_bytes.Goals as goal

pub returns : goal.returns
returns c = grind (arith, common_steps) steps 2000000

pub loop-byte-preserved : goal.loop-byte-preserved
loop-byte-preserved c = grind (arith, common_steps) steps 2000000
