use Rattle.std.proofs.lemmas.Grind.{common_steps, elements}
use Rattle.std.proofs.Common.{arith}
use Rattle.sc_graph.proofs.same.rows.are_same_rows.Goals as goal

pub returns-then-not-is_same : goal.returns-then-not-is_same
returns-then-not-is_same g c = grind (arith, elements) steps 2000000

pub returns : goal.returns
returns g c = grind (arith, elements) steps 2000000

pub loop-i-preserved : goal.loop-i-preserved
loop-i-preserved g c = grind (arith, common_steps) steps 2000000
