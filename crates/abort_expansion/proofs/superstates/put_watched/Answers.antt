use Rattle.std.proofs.Common.{arith}
use Rattle.std.proofs.lemmas.Grind.{common_steps, elements}
use Rattle.abort_expansion.proofs.superstates.put_watched.Goals as goal

pub returns-then-has_aborts : goal.returns-then-has_aborts
returns-then-has_aborts c = grind (arith, elements) steps 2000000

pub returns-else-has_aborts : goal.returns-else-has_aborts
returns-else-has_aborts c = grind (arith, common_steps) steps 2000000
