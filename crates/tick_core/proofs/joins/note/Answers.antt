use Rattle.std.proofs.lemmas.Grind.{elements}
use Rattle.std.proofs.Common.{arith}
use Rattle.tick_core.proofs.joins.note.Goals as goal

pub returns-else-at-len : goal.returns-else-at-len
returns-else-at-len c = grind (arith, elements) steps 2000000

pub returns-then-is_none : goal.returns-then-is_none
returns-then-is_none c = grind (arith, elements) steps 2000000
