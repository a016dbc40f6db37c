use Rattle.std.proofs.lemmas.Grind.{common_steps}
use Rattle.std.proofs.Common.{arith}
use Rattle.extended_reader.proofs.modules.known.put_known.Goals as goal

pub returns-after-is_writing : goal.returns-after-is_writing
returns-after-is_writing c = grind (arith, common_steps) steps 2000000
