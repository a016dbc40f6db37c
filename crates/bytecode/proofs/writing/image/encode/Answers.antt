use Rattle.std.proofs.Common.{arith}
use Rattle.std.proofs.lemmas.Grind.{common_steps}
use Rattle.bytecode.proofs.writing.image.encode.Goals as goal

pub put_nodes-requires : goal.put_nodes-requires
put_nodes-requires c = grind (arith, common_steps) steps 2000000

pub put_threads-requires : goal.put_threads-requires
put_threads-requires c = grind (arith, common_steps) steps 2000000
