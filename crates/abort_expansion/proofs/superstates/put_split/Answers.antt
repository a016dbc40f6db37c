use Rattle.std.proofs.Common.{arith}
use Rattle.std.proofs.lemmas.Grind.{common_steps, elements}
use Rattle.abort_expansion.proofs.superstates.put_split.Goals as goal

pub returns-then-not-is_prepared : goal.returns-then-not-is_prepared
returns-then-not-is_prepared c = grind (arith, elements) steps 2000000

pub returns : goal.returns
returns c = grind (arith, common_steps) steps 2000000
