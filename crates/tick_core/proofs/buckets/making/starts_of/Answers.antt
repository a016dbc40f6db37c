use Rattle.std.proofs.lemmas.Grind.{common_steps}
use Rattle.std.proofs.Common.{arith}
use Rattle.tick_core.proofs.buckets.making.starts_of.Goals as goal

pub overflow_add-next : goal.overflow_add-next
overflow_add-next c = grind (arith, common_steps) steps 2000000

pub loop-room-preserved : goal.loop-room-preserved
loop-room-preserved c = grind (arith, common_steps) steps 2000000
