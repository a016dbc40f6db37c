use Rattle.std.proofs.lemmas.Grind.{elements}
use Rattle.std.proofs.Common.{arith}
use Rattle.sc_graph.proofs.resting.have_kinds.Goals as goal

pub returns-then-ne : goal.returns-then-ne
returns-then-ne c = grind (arith, elements) steps 2000000

pub loop-x-preserved : goal.loop-x-preserved
loop-x-preserved c = grind (arith, elements) steps 2000000

pub returns : goal.returns
returns c = grind (arith, elements) steps 2000000
