use Rattle.std.proofs.Common.{arith}
use Rattle.std.proofs.lemmas.Grind.{elements}
use Rattle.priority_weights.proofs.protocol.ranked_follower.Goals as goal

pub returns-then-are_concurrent : goal.returns-then-are_concurrent
returns-then-are_concurrent c = grind (arith, elements) steps 2000000

pub loop-follower-preserved : goal.loop-follower-preserved
loop-follower-preserved c = grind (arith, elements) steps 2000000

pub returns : goal.returns
returns c = grind (arith, elements) steps 2000000
