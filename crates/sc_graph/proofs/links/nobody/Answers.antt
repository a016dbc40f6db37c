use Rattle.std.proofs.lemmas.Grind.{elements}
use Rattle.std.proofs.Common.{arith}
use Rattle.sc_graph.proofs.links.nobody.Goals as goal

pub loop-preserved : goal.loop-preserved
loop-preserved c = grind (arith, elements) steps 2000000
