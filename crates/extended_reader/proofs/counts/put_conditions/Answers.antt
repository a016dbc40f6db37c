use Rattle.std.proofs.lemmas.Grind.{common_steps}
use Rattle.std.proofs.Common.{arith}
use Rattle.extended_reader.proofs.counts.put_conditions.Goals as goal

pub loop-way-preserved : goal.loop-way-preserved
loop-way-preserved c = grind (arith, common_steps) steps 2000000
