use Rattle.std.proofs.lemmas.Grind.{elements}
use Rattle.std.proofs.Common.{arith}
use Rattle.scl_graph.proofs.tallies.tally_of_if.Goals as goal

pub returns : goal.returns
returns c = grind (arith, elements) steps 2000000
