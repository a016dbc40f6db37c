use Rattle.std.proofs.lemmas.Grind.{elements}
use Rattle.std.proofs.Common.{arith}
use Rattle.sc_graph.proofs.program.are_parents_sayable.Goals as goal

pub returns-then-eq : goal.returns-then-eq
returns-then-eq c = grind (arith, elements) steps 2000000

pub loop-thread-preserved : goal.loop-thread-preserved
loop-thread-preserved c = grind (arith, elements) steps 2000000

pub returns : goal.returns
returns c = grind (arith, elements) steps 2000000
