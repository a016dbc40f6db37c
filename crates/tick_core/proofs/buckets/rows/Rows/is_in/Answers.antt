use Rattle.std.proofs.Common.{arith}
use Rattle.std.proofs.lemmas.Grind.{elements}
use Rattle.tick_core.proofs.buckets.rows.Rows.is_in.Goals as goal

pub returns-in-Some-Some : goal.returns-in-Some-Some
returns-in-Some-Some c = grind (arith, elements) steps 2000000

pub returns-in_default : goal.returns-in_default
returns-in_default c = grind (arith, elements) steps 2000000

pub returns-in_default-2 : goal.returns-in_default-2
returns-in_default-2 c = grind (arith, elements) steps 2000000
