use Rattle.std.proofs.lemmas.Grind.{common_steps}
use Rattle.std.proofs.Common.{arith}
use Rattle.extended_reader.proofs.modules.uses.next_use.Goals as goal

pub returns-clause-room : goal.returns-clause-room
returns-clause-room c = grind (arith, common_steps) steps 2000000

pub returns-clause-made : goal.returns-clause-made
returns-clause-made c = grind (arith, common_steps) steps 2000000

pub returns-then-not-has_room-clause-made : goal.returns-then-not-has_room-clause-made
returns-then-not-has_room-clause-made c = grind (arith, common_steps) steps 2000000
