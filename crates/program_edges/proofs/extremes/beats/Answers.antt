use Rattle.std.proofs.Common.{arith}
use Rattle.std.proofs.lemmas.Grind.{common_steps}
use Rattle.program_edges.proofs.extremes.beats.Goals as goal

pub returns-in-Greatest : goal.returns-in-Greatest
returns-in-Greatest g c = grind (arith, common_steps) steps 2000000
